-- A session's window after the nonces of some calls, the latest first; and a record as its window and the rest of it.
-- Assumes nothing.
use mathlib.Core.Path.{◌≡◌, refl, sym, ap, ap₂, ◌∙◌}
use mathlib.Core.Bool.{Bool, false, true≢false}
use mathlib.Core.List.Permᴰ
use mathlib.Core.List.{List, [], ◌∷◌, Permᴰ, reverse_aux, filter_map}
use mathlib.Core.Logic.{⊎_elim}
use mathlib.Core.Option.{Option, none, some, Option-elim}
use Prim.Native.Nat.{ℕ}
use borrow.Author.Tests.{eq-eqb}
use lib.Dec.{eqb}
use Rattle.window.specs.declared.Window.{Window}
use Rattle.window.specs.Window.{fresh, step_of}
use Rattle.window.specs.History.{Holdable, run}
use Rattle.window.proofs.Arrival.{any_order}
use Rattle.table.specs.declared.session.Record.{Record}
use Rattle.table.specs.Record.{Fits, window_of, with_window}
use Rattle.table.specs.WellFormed.{Sound}
use Rattle.demands.specs.History.{Call}
use Rattle.demands.proofs.Arrival.Alike.{bare}
use Rattle.demands.proofs.Arrival.Requests.{nonce_in, with_nonce_lem}

-- the window after some nonces, the latest first
abbrev pub arrived : Window → List ℕ → Window
arrived w [] = w
arrived w (n ∷ earlier) = (step_of (arrived w earlier) n).window

arrived_run : (w : Window) (ns later : List ℕ) → run w (reverse_aux ns later) ≡ run (arrived w ns) later
unfolding run
arrived_run w [] later = refl
arrived_run w (n ∷ ns) later = arrived_run w ns (n ∷ later)

pub any_arrival : (w : Window) → Holdable w → {ns ms : List ℕ} → Permᴰ ns ms → arrived w ns ≡ arrived w ms
unfolding run
any_arrival w holds {ns} {ms} p =
    sym (arrived_run w ns [])
    ∙ any_order w holds (Permᴰ.trans (Permᴰ.reverse ns) (Permᴰ.trans p (Permᴰ.symm (Permᴰ.reverse ms))))
    ∙ arrived_run w ms []

-- the nonces of some calls
abbrev pub nonces_of : List Call → List ℕ
nonces_of = filter_map nonce_in

pub arrives : (w : Window) (call : Call) (own : List Call) → with_nonce_lem (nonce_in call) (arrived w (nonces_of own)) ≡ arrived w (nonces_of (call ∷ own))
unfolding filter_map Option-elim
arrives w call own = by (nonce_in call)
  where
    by : (n : Option ℕ) → with_nonce_lem n (arrived w (nonces_of own)) ≡ arrived w (Option-elim n (nonces_of own) (λ (k : ℕ). k ∷ nonces_of own))
    by none = refl
    by (some k) = refl

-- a sound record holds a window that a record may hold, and is that window and the rest of it
pub sound_holds : (r : Record) → Sound r → Fits r → Holdable (window_of r)
sound_holds r sound fits = record { new = λ e. ⊎_elim (none_yet e) (λ u. absurd (true≢false (sym (eq-eqb r.any 1 u) ∙ e))) sound.any; bits = fits.bits }
  where
    none_yet : eqb r.any 1 ≡ false → r.any ≡ 0 → window_of r ≡ fresh
    none_yet e z =
        ap₂ (λ (h bits : ℕ). record { any = eqb r.any 1; highest = record { 0 = h }; bits = bits }) (sound.new z).0 (sound.new z).1
        ∙ ap (λ (t : Bool). record { any = t; highest = record { 0 = 0 }; bits = 0 }) e

pub rejoined : (r : Record) → Sound r → r ≡ with_window (bare r) (window_of r)
rejoined r sound =
    ap (λ (any : ℕ). record { used = r.used; iv = r.iv; expiry = r.expiry; any = any; highest = r.highest; bits = r.bits; hash = r.hash })
    (⊎_elim (λ z. rw z) (λ u. rw u) sound.any)
