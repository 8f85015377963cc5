-- The parts of a session are laid side by side.
-- Assumes nothing.
use Rattle.std.proofs.Common.{◌≡◌, refl, ap, ◌∙◌, arith, ℕ, List, ◌+◌, length}
use lib.ListN.{length-replicate}
use Rattle.cells.specs.InnerLaid.{Laid}
use Rattle.cells.proofs.Numbers.{length_bytes_of}
use Rattle.cells.proofs.Laid.{laid_more}
use Rattle.scanner.specs.State.{state_size}
use Rattle.scanner.specs.InnerSteps.{session_at}
use Rattle.scanner.proofs.States.{laid_session}
use Rattle.scanner.proofs.session.Session.write.Goals as goal

pub put_at-requires-4 : goal.put_at-requires-4
put_at-requires-4 c = omega (arith, ap length c.as_slice.ensures, c.args.self.now.key_size, ap length c.requires, length-replicate {A = ℕ} state_size 0)

-- a text that was laid ends where the next begins
up_to : {out left : List ℕ} {at end : ℕ} {text : List ℕ} (next : ℕ) → Laid out left at end text → next ≡ at + length text → Laid out left at next text
up_to next p e = record { is = p.is; ends = e }

pub returns : goal.returns
returns c =
    let k = c.args.self.now in
    let room : length c.args.out.now ≡ 329 = ap length c.requires ∙ length-replicate {A = ℕ} state_size 0 in
    let last : Laid c.args.out.now _ 0 4 _ = record { is = c.put32.ensures; ends = omega (arith, length_bytes_of 4 k.last.0) } in
    let next : Laid _ _ 4 12 _ = record { is = c.put64.ensures; ends = omega (arith, length_bytes_of 8 k.next) } in
    let mask : Laid _ _ 12 20 _ = record { is = c.put64-2.ensures; ends = omega (arith, length_bytes_of 8 k.mask) } in
    let numbers = laid_more (laid_more last next (omega arith)) mask (omega arith) in
    let sizes = laid_more numbers (up_to 23 (rw c.mask.ensures at c.put_at.ensures) refl) (omega arith) in
    let iv = laid_more sizes (up_to 35 c.put_at-2.ensures (omega (arith, k.iv_size))) (omega arith) in
    let tag = laid_more iv (up_to 51 c.put_at-3.ensures (omega (arith, k.tag_size))) (omega arith) in
    let key = laid_more tag (up_to 83 (rw c.as_slice.ensures at c.put_at-4.ensures) (omega (arith, k.key_size))) (omega arith) in
    let s = laid_more key c.put_at-at.ensures (omega (arith, k.s_fits, c.put_at-at.ensures.ends)) in
    let all = laid_more s c.put_at-5.ensures (omega (arith, k.s_fits, k.extra_fits, c.put_at-at.ensures.ends, c.put_at-5.ensures.ends)) in
    laid_session (session_at k) c.requires all
