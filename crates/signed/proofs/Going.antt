-- The values by notes, taken in one after the other.
-- Assumes nothing.
use mathlib.Core.Path.{◌≡◌}
use mathlib.Core.List.{List, [], ◌∷◌}
use Prim.Native.Nat.{ℕ, suc}
use native.Mathlib.Omega.{arith}
use lib.ListN.{length}
use Rattle.sha_2.specs.declared.State.{State}
use Rattle.lines.specs.InnerNotes.{PlaceIn, Placed, value_by, values_by}
use Rattle.signed.specs.InnerStreamed.{Room, TookParts}
use Rattle.signed.proofs.Streaming.{room_first, room_rest, took_none, took_then}

-- a state that takes in the values by these notes too has taken in all
pub record Going (aside head : List ℕ) (ps qs : List ℕ) (s start : State) (all : List (List ℕ)) : Type 0 where
  pub even : length ps ≡ length qs
  pub heads : Placed head ps
  pub asides : Placed aside qs
  pub room : Room s (values_by aside head ps qs)
  pub on : (r : State) → TookParts s (values_by aside head ps qs) r → TookParts start all r

pub going_start : (aside head : List ℕ) {ps qs these those : List ℕ} (s : State) → these ≡ ps → those ≡ qs → length ps ≡ length qs → Placed head ps
    → Placed aside qs → Room s (values_by aside head ps qs) → Going aside head these those s s (values_by aside head ps qs)
going_start aside head s e f even heads asides room = rw (e, f) (record { even = even; heads = heads; asides = asides; room = room; on = λ r took. took })

module _ (aside head : List ℕ) {p q : ℕ} {ps qs : List ℕ} {s start : State} {all : List (List ℕ)} (g : Going aside head (p ∷ ps) (q ∷ qs) s start all) where
  pub going_first : PlaceIn head p × PlaceIn aside q × Room s (value_by aside head p q ∷ [])
  unfolding values_by
  going_first = (g.heads 0, g.asides 0, room_first s (value_by aside head p q ∷ []) (values_by aside head ps qs) g.room)

  pub going_on : {t : State} → TookParts s (value_by aside head p q ∷ []) t → Going aside head ps qs t start all
  unfolding values_by
  going_on took = record {
    even = omega (arith, g.even);
    heads = λ i. g.heads (suc i);
    asides = λ i. g.asides (suc i);
    room = room_rest (value_by aside head p q ∷ []) (values_by aside head ps qs) g.room took;
    on = λ r rest. g.on r (took_then (value_by aside head p q ∷ []) (values_by aside head ps qs) took rest);
  }

pub going_end : (aside head ps qs : List ℕ) {s start : State} {all : List (List ℕ)} → length ps ≡ 0 → Going aside head ps qs s start all → TookParts start all s
unfolding values_by
going_end aside head [] qs {s} h g = g.on s (took_none s)
going_end aside head (p ∷ ps) qs h g = absurd (omega arith)
