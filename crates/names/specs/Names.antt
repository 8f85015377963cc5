-- Names of header fields: RFC 9110, sections 5.1 and 5.6.2, and the 55 that document 01 lists under 'The X-S-Armor value'.
-- Assumes nothing.
use Rattle.std.specs.Prelude.{ℕ, ◌+◌, List, [], ◌∷◌, Bool, true, false, cond, ◌&&◌, ◌||◌, length, leb, ltb, eqb}
use Rattle.cells.specs.Text.{codes}
use Rattle.cells.specs.Spans.{all}

abbrev pub between : ℕ → ℕ → ℕ → Bool
between low high b = leb low b && leb b high

unfoldable pub has_byte : List ℕ → ℕ → Bool
has_byte [] b = false
has_byte (x ∷ xs) b = eqb x b || has_byte xs b

-- RFC 9110, 5.6.2: tchar is one of these signs, a digit or a letter
unfoldable pub token_byte : ℕ → Bool
token_byte b = has_byte (codes "!#$%&'*+-.^_`|~") b || between 48 57 b || between 65 90 b || between 97 122 b

-- RFC 9110, 5.6.2: token
unfoldable pub is_token : List ℕ → Bool
is_token name = ltb 0 (length name) && all token_byte name

-- an ASCII letter of upper case as that of lower case
unfoldable pub lower : ℕ → ℕ
lower b = cond (between 65 90 b) (b + 32) b

-- RFC 9110, 5.1: names are compared without regard to case
unfoldable pub same_name : List ℕ → List ℕ → Bool
same_name [] [] = true
same_name [] (y ∷ ys) = false
same_name (x ∷ xs) [] = false
same_name (x ∷ xs) (y ∷ ys) = eqb (lower x) (lower y) && same_name xs ys

-- one of the names is this one
unfoldable pub has_name : List (List ℕ) → List ℕ → Bool
has_name [] name = false
has_name (n ∷ ns) name = same_name n name || has_name ns name

unfoldable pub armor_name : List ℕ
armor_name = codes "X-S-Armor"

-- the names of the mask's bits 1 to 55, in order
unfoldable pub header_names : List (List ℕ)
header_names =
    codes "Host"
    ∷ codes "User-Agent"
    ∷ codes "Accept"
    ∷ codes "Connection"
    ∷ codes "Accept-Encoding"
    ∷ codes "Accept-Language"
    ∷ codes "Referer"
    ∷ codes "Cookie"
    ∷ codes "Accept-Charset"
    ∷ codes "If-Modified-Since"
    ∷ codes "If-None-Match"
    ∷ codes "Range"
    ∷ codes "Date"
    ∷ codes "Authorization"
    ∷ codes "Cache-Control"
    ∷ codes "Origin"
    ∷ codes "Pragma"
    ∷ codes "DNT"
    ∷ codes "X-Csrftoken"
    ∷ codes "Sec-WebSocket-Version"
    ∷ codes "Sec-WebSocket-Protocol"
    ∷ codes "Sec-WebSocket-Key"
    ∷ codes "Sec-WebSocket-Extensions"
    ∷ codes "TE"
    ∷ codes "X-Requested-With"
    ∷ codes "X-Forwarded-For"
    ∷ codes "X-Forwarded-Proto"
    ∷ codes "Forwarded"
    ∷ codes "From"
    ∷ codes "HTTP2-Settings"
    ∷ codes "Upgrade"
    ∷ codes "Proxy-Authorization"
    ∷ codes "If"
    ∷ codes "If-Match"
    ∷ codes "If-Range"
    ∷ codes "If-Unmodified-Since"
    ∷ codes "Max-Forwards"
    ∷ codes "Prefer"
    ∷ codes "Via"
    ∷ codes "ALPN"
    ∷ codes "Expect"
    ∷ codes "Alt-Used"
    ∷ codes "CalDAV-Timezones"
    ∷ codes "Schedule-Reply"
    ∷ codes "If-Schedule-Tag-Match"
    ∷ codes "Destination"
    ∷ codes "Lock-Token"
    ∷ codes "Timeout"
    ∷ codes "Ordering-Type"
    ∷ codes "Overwrite"
    ∷ codes "Position"
    ∷ codes "Depth"
    ∷ codes "SLUG"
    ∷ codes "Trailer"
    ∷ codes "MIME-Version"
    ∷ []
