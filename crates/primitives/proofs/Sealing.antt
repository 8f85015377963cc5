-- What the test of the sizes says of each, and what an answer of `unseal` says of the text.
-- Assumes nothing.
use Rattle.std.proofs.Common.{◌≡◌, ℕ, ◌-◌, ◌^◌, ◌<◌, ◌≤◌, List, true, ap, arith, leb, eqb, refl, Bool, false, Result, Ok, Err, eq-eqb}
use mathlib.Core.Bool.{and-eq-true_iff}
use borrow.Author.Tests.{eqb-true, leb-true, le-leb}
use Rattle.std.proofs.Math.Option.{Option, none, some}
use Rattle.gcm.specs.declared.WrongTag.{WrongTag}
use Rattle.gcm.specs.InnerCode.{left}
use Rattle.gcm.specs.InnerCode as C
use Rattle.std.specs.Result.{IsErrAnd}
use Rattle.primitives.specs.declared.Undone.{Undone}
use Rattle.primitives.specs.declared.Undone.TheVariants.{Size, Tag}
use Rattle.primitives.specs.Answer.{answer, number_of}
use Rattle.primitives.specs.Sealing.{sizes_fit, opening}

-- the lengths of key, IV, text, tag and buffer fit
pub record Fit (key iv text tag out : ℕ) : Type 0 where
  pub key_size : key ≡ 32
  pub iv_size : iv ≡ 12
  pub text_size : text ≤ 2 ^ 36 - 32
  pub tag_size : tag ≡ 16
  pub out_size : out ≡ text

pub fit : (key iv text tag out : ℕ) → sizes_fit key iv text tag out ≡ true → Fit key iv text tag out
unfolding sizes_fit
fit key iv text tag out e =
    let e₁ = (and-eq-true_iff (eqb key 32) _).0 e in
    let e₂ = (and-eq-true_iff (eqb iv 12) _).0 e₁.1 in
    let e₃ = (and-eq-true_iff (leb text (2 ^ 36 - 32)) _).0 e₂.1 in
    let e₄ = (and-eq-true_iff (eqb tag 16) (eqb out text)).0 e₃.1 in
    record {
      key_size = eqb-true key 32 e₁.0;
      iv_size = eqb-true iv 12 e₂.0;
      text_size = leb-true text (2 ^ 36 - 32) e₃.0;
      tag_size = eqb-true tag 16 e₄.0;
      out_size = eqb-true out text e₄.1;
    }

pub fits : (key iv text tag out : ℕ) → Fit key iv text tag out → sizes_fit key iv text tag out ≡ true
unfolding sizes_fit
fits key iv text tag out f =
    rw (eq-eqb key 32 f.key_size, eq-eqb iv 12 f.iv_size, le-leb text (2 ^ 36 - 32) f.text_size, eq-eqb tag 16 f.tag_size, eq-eqb out text f.out_size)

pub unfit : (key iv text tag out : ℕ) → (Fit key iv text tag out → ⊥) → sizes_fit key iv text tag out ≡ false
unfit key iv text tag out not = go (sizes_fit key iv text tag out) refl
  where
    go : (b : Bool) → sizes_fit key iv text tag out ≡ b → b ≡ false
    go true e = absurd (not (fit key iv text tag out e))
    go false e = refl

pub too_long : {text : ℕ} → 2 ^ 36 - 32 < text → text ≤ 2 ^ 36 - 32 → ⊥
too_long long short = omega arith

pub opened_text : (o : Option (List ℕ)) (old now : List ℕ) → Ok tt ≡ C.answer o → now ≡ left o old → answer 0 now ≡ opening o old
opened_text none old now e f = absurd cc
opened_text (some text) old now e f = ap (answer 0) f

pub opened_wrong : (o : Option (List ℕ)) (old now : List ℕ) {w : WrongTag} → Err w ≡ C.answer o → now ≡ left o old → answer 2 now ≡ opening o old
opened_wrong none old now e f = ap (answer 2) f
opened_wrong (some text) old now e f = absurd cc

-- the numbers of answers that say so
pub size_number : (r : Result (Unit {0}) Undone) → IsErrAnd r (λ u. u ≡ Size) → number_of r ≡ 1
size_number (Ok done) h = absurd h
size_number (Err Size) h = refl
size_number (Err Tag) h = absurd cc

pub wrong_number : (r : Result (Unit {0}) Undone) → IsErrAnd r (λ u. u ≡ Tag) → number_of r ≡ 2
wrong_number (Ok done) h = absurd h
wrong_number (Err Size) h = absurd cc
wrong_number (Err Tag) h = refl
