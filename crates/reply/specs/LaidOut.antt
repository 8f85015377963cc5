-- Whether a text is laid out as a setup writes its reply: document 01, 'The X-S-Armor value', its paragraph on the setup reply, and document 02,
-- K11. `some_setup` of crates/demands/proofs/Trial/Replies.antt says that, with good orders, these are the texts that setups write.
-- Assumes nothing.
use Rattle.std.specs.Prelude.{Bool, ◌&&◌, List, ℕ}
use Rattle.cells.specs.Runs.{same}
use Rattle.hashes.specs.Hashes.{named}
use Rattle.armor.specs.Numerals.{mask_of}
use Rattle.armor.specs.Keys.{key_h, key_ah, key_s, key_iv, key_tag, key_eah, other_key}
use Rattle.armor.specs.Value.{Field, carried}
use Rattle.armor.specs.Fields.{the, reply_holds}
use Rattle.orders.specs.Orders.{Orders, orders_of, orders_good}
use Rattle.reply.specs.Replies.{setup_reply}

-- the reply that a setup would write of what some fields hold; kh is the key without a rule
unfoldable pub reply_with : List Field → List ℕ
reply_with fs =
    setup_reply (the key_s fs) (the key_iv fs) (the key_tag fs) (the other_key fs) (named (mask_of (the key_h fs))) (mask_of (the key_ah fs)) (the key_eah fs)

-- it carries what a reply does, and is what a setup would write of that
unfoldable pub laid_out : List ℕ → Bool
laid_out text = reply_holds (carried text) && same text (reply_with (carried text))

-- the orders that give its h, ah and eah: that hash alone, and each limit at its default
unfoldable pub orders_told : List Field → Orders
orders_told fs = orders_of (mask_of (the key_ah fs)) (mask_of (the key_h fs)) (the key_eah fs) 0 0 0

-- it is laid out so, and those orders are good
unfoldable pub is_reply : List ℕ → Bool
is_reply text = laid_out text && orders_good (orders_told (carried text))
