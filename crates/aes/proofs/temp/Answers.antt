-- The three cases of a word.
-- Assumes nothing.
use Rattle.std.proofs.Common.{ℕ, [], ◌∷◌, refl, ap, ap₂, ◌∙◌, eq-eqb, ne_eqb}
use Rattle.aes.specs.Cipher.{temp, xor_word, sub_word, rcon}
use Rattle.aes.proofs.temp.Goals as goal

pub returns-then-i-eq0 : goal.returns-then-i-eq0
unfolding temp rcon
returns-then-i-eq0 c =
    rw (eq-eqb _ _ c.if-i-eq0.true)
    (c.xor_word.ensures
    ∙ ap₂ xor_word (c.sub_word.ensures ∙ ap sub_word c.rot_word.ensures) (ap (λ (k : ℕ). k ∷ 0 ∷ 0 ∷ 0 ∷ []) c.round_constant.ensures))

pub returns-then-i-eq4 : goal.returns-then-i-eq4
unfolding temp
returns-then-i-eq4 c = rw (ne_eqb _ _ c.if-i-eq0.false, eq-eqb _ _ c.if-i-eq4.true) c.sub_word-then-i-eq4.ensures

pub returns : goal.returns
unfolding temp
returns c = rw (ne_eqb _ _ c.if-i-eq0.false, ne_eqb _ _ c.if-i-eq4.false) refl
