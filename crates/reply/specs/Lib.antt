-- What the gate writes into a reply buffer, and whether a text is a setup's reply.
pub mod Replies
pub mod LaidOut
pub mod InnerRead
pub mod InnerWritten
