-- The rounds in turn, and the block that the columns are.
-- Assumes nothing.
use Rattle.std.proofs.Common.{◌≡◌, List, [], ℕ, ◌-◌, ◌/◌, ◌%◌, get_or, refl, ap, ap₂, ◌∙◌, arith, rules}
use Rattle.aes.specs.Cipher.{rounds, cipher, add_round_key, shift_rows, sub_bytes}
use Rattle.aes.proofs.Arrays.{made, state_by}
use Rattle.aes.proofs.Cipher.{round_more}
use Rattle.aes.proofs.encrypt.Goals as goal

pub loop-n-init : goal.loop-n-init
unfolding rounds
loop-n-init c = refl

pub loop-n-preserved : goal.loop-n-preserved
loop-n-preserved c = c.round-s.ensures ∙ round_more c.args.keys.now _ c.loop-n.n c.loop-n.auto.n c.loop-n.invariant

pub returns : goal.returns
unfolding cipher
returns c =
    let keys = c.args.keys.now in
    let z = c.last_round-z.result in
    let last : c.loop-n.n - 1 ≡ 13 = omega arith in
    state_by (λ (r k : ℕ). get_or (get_or z k []) r 0) c.from_fn.result c.from_fn.ensures.items.long
    (made _ (λ (k : ℕ). get_or (get_or z (k / 4) []) (k % 4) 0) _ (λ k y q call. search rules) c.from_fn.result 16 c.from_fn.ensures.items)
    ∙ c.last_round-z.ensures
    ∙ ap (λ (s : List ℕ). add_round_key (shift_rows (sub_bytes s)) keys 14) (c.loop-n.invariant ∙ ap₂ (rounds keys) c.first_round-s.ensures last)
