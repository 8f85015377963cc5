-- A block more in each turn.
-- Assumes nothing.
use Rattle.std.proofs.Common.{◌≡◌, ℕ, ◌+◌, ◌-◌, ◌*◌, ◌/◌, ◌<◌, min, length, take, drop, refl, sym, ap, ◌∙◌, arith}
use lib.ListN.{take-append-drop}
use Rattle.std.specs.Int.Bits.{bit_xor}
use Rattle.gcm.specs.Multiply.{product}
use Rattle.gcm.specs.Ghash.{hashed}
use Rattle.gcm.specs.Gcm.{padded}
use Rattle.gcm.proofs.Masking.{length_lent}
use Rattle.gcm.proofs.Hashing.{hashed_more}
use Rattle.gcm.proofs.hash.Goals as goal

pub loop-n-init : goal.loop-n-init
unfolding hashed
loop-n-init c = refl

pub filled-requires : goal.filled-requires
filled-requires c =
    let s = c.args.s.now in
    let n = c.loop-n.n in
    let ends : c.min-end.result ≡ 16 * n + min 16 (length s - 16 * n) = omega (arith, c.min-end.ensures, c.div_ceil-n-end.ensures) in
    omega (arith, length_lent s (16 * n) c.min-end.result ends)

pub loop-n-preserved : goal.loop-n-preserved
loop-n-preserved c =
    let s = c.args.s.now in
    let n = c.loop-n.n in
    let e = c.min-end.result in
    let begins : 16 * n < length s = omega (arith, c.div_ceil-n-end.ensures) in
    let ends : e ≡ 16 * n + min 16 (length s - 16 * n) = omega (arith, c.min-end.ensures) in
    let part = take (e - 16 * n) (drop (16 * n) s) in
    let long : length part ≡ min 16 (length s - 16 * n) = omega (arith, length_lent s (16 * n) e ends) in
    c.multiply-y.ensures
    ∙ ap (λ (x : ℕ). product (bit_xor c.loop-n.y x) c.args.h) c.filled.ensures
    ∙ hashed_more c.args.h s part (drop (e - 16 * n) (drop (16 * n) s)) n (sym (take-append-drop (e - 16 * n) (drop (16 * n) s))) long begins
    c.loop-n.invariant

pub returns : goal.returns
returns c =
    let e : c.loop-n.n ≡ (length c.args.s.now + 15) / 16 = omega (arith, c.div_ceil-n-end.ensures) in
    c.loop-n.invariant ∙ ap (hashed c.args.h (padded c.args.s.now)) e
