-- Two tables that are alike but for the window of one session.
-- Assumes nothing.
use mathlib.Core.Path.{◌≡◌, refl, sym, ap, ap₂, ◌∙◌}
use mathlib.Core.Bool.{Bool, true≢false}
use mathlib.Core.List.{List, [], ◌∷◌}
use mathlib.Core.Logic.{◌⊎◌, inl, inr, ⊎_elim}
use Prim.Native.Nat.{ℕ, suc, ◌/◌, ◌<◌}
use native.Mathlib.Omega.{arith}
use lib.ListN.{length, get_or}
use lib.Seq.{ext_get_or}
use Rattle.cells.specs.Runs.{same}
use Rattle.cells.proofs.Equality.{same_equal, same_self}
use Rattle.cells.proofs.Tests.{tested}
use Rattle.window.specs.Window.{fresh}
use Rattle.table.specs.declared.session.Record.{Record}
use Rattle.std.specs.Prelude.{Option}
use Rattle.table.specs.Record.{size, freed, with_window}
use Rattle.table.specs.Table.{places, records, record_at, first_from, taken, or_else, is_free, lapsed}
use Rattle.table.specs.Session.{place_of, held_at}
use Rattle.table.specs.WellFormed.{WellFormed}
use Rattle.table.proofs.Records.{length_records, records_at}
use Rattle.demands.specs.Struck.{session_in, StandsAlike, here}
use Rattle.demands.proofs.Shared.Stored.{sound_at_lem}
use Rattle.demands.proofs.Shared.Named.{session_found}

-- a record but for its window
abbrev pub bare : Record → Record
bare r = with_window r fresh

-- every session has the same place in both, and the same record; of one, the record but for its window
pub record LikeBut (iv one other : List ℕ) : Type 0 where
  pub long : length one ≡ length other
  pub place : (v : List ℕ) → place_of one v ≡ place_of other v
  pub session : (v : List ℕ) → (v ≡ iv → ⊥) → session_in v one ≡ session_in v other
  pub but : bare (session_in iv one) ≡ bare (session_in iv other)

pub like_self : (iv table : List ℕ) → LikeBut iv table table
like_self iv table = record { long = refl; place = λ v. refl; session = λ v n. refl; but = refl }

pub like_back : (iv one other : List ℕ) → LikeBut iv one other → LikeBut iv other one
like_back iv one other l = record { long = sym l.long; place = λ v. sym (l.place v); session = λ v n. sym (l.session v n); but = sym l.but }

pub like_through : (iv one other third : List ℕ) → LikeBut iv one other → LikeBut iv other third → LikeBut iv one third
like_through iv one other third l m = record {
  long = l.long ∙ m.long;
  place = λ v. l.place v ∙ m.place v;
  session = λ v n. l.session v n ∙ m.session v n;
  but = l.but ∙ m.but;
}

-- an IV is this one or another
pub own_or_other : (v iv : List ℕ) → (v ≡ iv) ⊎ (v ≡ iv → ⊥)
own_or_other v iv = tested (same v iv) (λ t. inl (same_equal v iv t)) (λ t. inr (λ e. absurd (true≢false (sym (rw e (same_self iv)) ∙ t))))

-- the lowest place of two lists of records that a test tells alike
same_first : (test : Record → Bool) (place : ℕ) (rs ts : List Record) → length rs ≡ length ts
    → ((i : ℕ) → i < length rs → test (get_or rs i freed) ≡ test (get_or ts i freed)) → first_from test place rs ≡ first_from test place ts
same_first test place [] [] e same = refl
same_first test place [] (t ∷ ts) e same = absurd (omega arith)
same_first test place (r ∷ rs) [] e same = absurd (omega arith)
same_first test place (r ∷ rs) (t ∷ ts) e same =
    rw (same 0 (omega arith), same_first test (suc place) rs ts (omega arith) (λ i h. same (suc i) (omega arith)))

-- places that a session has in two tables alike, and what is the same of its records there
module _ {A : Type 0} (f : Record → A) where
  used_alike : (one other : List ℕ) → ((v : List ℕ) → place_of one v ≡ place_of other v) → ((v : List ℕ) → f (session_in v one) ≡ f (session_in v other))
      → WellFormed (records one) → (p : ℕ) → p < places one → (record_at one p).used ≡ 1 → f (record_at one p) ≡ f (record_at other p)
  used_alike one other place session w p h u =
      let v = (record_at one p).iv in
      let at = session_found one v p w (record { within = h; used = u; iv = refl }) in
      ap (λ (q : Option ℕ). f (held_at one q)) (sym at) ∙ session v ∙ ap (λ (q : Option ℕ). f (held_at other q)) (sym (place v) ∙ at)

  place_alike : (one other : List ℕ) → length one ≡ length other → ((v : List ℕ) → place_of one v ≡ place_of other v) → ((v : List ℕ) → f (session_in v one) ≡ f (session_in v other))
      → WellFormed (records one) → WellFormed (records other) → (p : ℕ) → p < places one → f (get_or (records one) p freed) ≡ f (get_or (records other) p freed)
  place_alike one other long place session w w' p h =
      let h' : p < places other = rw long at h in
      let a = sound_at_lem one w p h in
      let b = sound_at_lem other w' p h' in
      ap f (records_at one p h)
      ∙ ⊎_elim
      (λ z. ⊎_elim (λ z'. ap f (a.free z ∙ sym (b.free z'))) (λ u. sym (used_alike other one (λ v. sym (place v)) (λ v. sym (session v)) w' p h' u)) b.used)
      (used_alike one other place session w p h) a.used
      ∙ sym (ap f (records_at other p h'))

-- of equal length, too
as_many : (one other : List ℕ) → length one ≡ length other → length (records one) ≡ length (records other)
as_many one other long = length_records one ∙ ap (λ (n : ℕ). n / size) long ∙ sym (length_records other)

module _ (iv one other : List ℕ) (l : LikeBut iv one other) where
  bare_session : (v : List ℕ) → bare (session_in v one) ≡ bare (session_in v other)
  bare_session v = ⊎_elim (λ e. rw e l.but) (λ n. ap bare (l.session v n)) (own_or_other v iv)

  pub stands : (v : List ℕ) → session_in v one ≡ session_in v other → StandsAlike here v one other
  stands v e = record {
    session = e;
    place = λ p. (λ z. sym (l.place v) ∙ z, λ z. l.place v ∙ z);
    within = λ p. (λ h. rw (sym l.long) h, λ h. rw l.long h);
  }

  module _ (w : WellFormed (records one)) (w' : WellFormed (records other)) where
    first_alike : (test : Record → Bool) → ((r s : Record) → bare r ≡ bare s → test r ≡ test s) → first_from test 0 (records one) ≡ first_from test 0 (records other)
    first_alike test tells =
        same_first test 0 (records one) (records other) (as_many one other l.long)
        (λ i h. tells _ _ (place_alike bare one other l.long l.place bare_session w w' i (rw length_records at h)))

    -- a setup takes the same
    pub taken_alike : (clock : ℕ) → taken (records one) clock ≡ taken (records other) clock
    unfolding taken
    taken_alike clock = ap₂ or_else (first_alike is_free (λ r s. ap is_free)) (first_alike (lapsed clock) (λ r s. ap (lapsed clock)))

    -- and if the window is the same, the records are
    pub same_records : session_in iv one ≡ session_in iv other → records one ≡ records other
    same_records e =
        ext_get_or freed (records one) (records other) (as_many one other l.long)
        (λ i h. place_alike (λ (r : Record). r) one other l.long l.place (λ v. ⊎_elim (λ is. rw is e) (l.session v) (own_or_other v iv)) w w' i (rw length_records at h))
