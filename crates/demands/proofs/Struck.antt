-- Document 02, K9: "from a well-formed table, after all setups, take any sequence of requests and endings. Strike out every call that bears
-- another session's IV. This session's verdicts, replies and record at the end are the same. The clock values of its own calls are kept."
-- `others_struck` is that sentence, and `any_strike` says it of every strike that keeps the calls that bear this session's IV. Calls by the thin
-- entry, over a record of the table, and makings of an index may be among them; each brings its clock, orders, keys and bytes with it, whatever they
-- are. So other sessions' calls neither end a session nor delay it nor fill its window (`unharmed`), and two makers' sessions are judged on two
-- tables as on one (`two_tables`), whatever places they have there and however many records the tables have.
-- Assumes nothing.
pub mod Turned
pub mod Calls
pub mod Kept
pub mod One
pub mod Compared
pub mod Runs
pub mod Served
pub mod Steps
pub mod Witnesses
use mathlib.Core.Path.{◌≡◌, refl, ap, subst, ◌∙◌}
use mathlib.Core.Bool.{Bool, true, false, false≢true, not}
use mathlib.Core.List.{List, [], ◌∷◌}
use mathlib.Core.Option.{Option, none, some}
use Prim.Native.Nat.{ℕ}
use Rattle.cells.specs.Runs.{same}
use Rattle.cells.proofs.Equality.{same_equal}
use Rattle.table.specs.Record.{window_of}
use Rattle.gate.specs.State.{State}
use Rattle.demands.specs.History.{Call, after, lent_in}
use Rattle.demands.specs.Struck.{Lendable, borne, passes, bears_of, bears, bears_other, Strike, Spares, unstruck, told_in, session_in, StandsAlike, here, all_elsewhere, SameSession, NoneBears, Unharmed, calls_of}
use Rattle.demands.proofs.Shared.Named.{found_session, session_found}
use Rattle.demands.proofs.Struck.Kept.{Ready, ready}
use Rattle.demands.proofs.Struck.Runs.{all_here, Ran, ran}

alike_self : (iv table : List ℕ) → StandsAlike here iv table table
alike_self iv table = record { session = refl; place = λ p. (λ e. e, λ e. e); within = λ p. (λ h. h, λ h. h) }

-- on one table
stricken : (iv : List ℕ) (state : State) (calls : List Call) (strikes : Strike) → Ready state → lent_in calls ≡ [] → Spares iv strikes
    → Ran here iv state calls state (unstruck strikes calls)
stricken iv state calls strikes r setups spares =
    subst (λ (others : List Call). Ran here iv state calls state others) (all_here (unstruck strikes calls))
    (ran here iv state state strikes spares r r (alike_self iv state.table) calls setups)

-- THE THEOREM: whatever a strike takes that keeps every call that bears this IV, the session's answers and its record are the same
pub any_strike : (iv : List ℕ) (state : State) (calls : List Call) (strikes : Strike) → Lendable state → lent_in calls ≡ [] → Spares iv strikes
    → SameSession here iv state calls state (unstruck strikes calls)
any_strike iv state calls strikes l setups spares = (stricken iv state calls strikes (ready state l) setups spares).same

-- a call that bears this IV bears no other
spares_own : (iv : List ℕ) → Spares iv (λ before call. bears_other iv call)
spares_own iv before call = by (borne call)
  where
    by : (b : Option (List ℕ)) → passes (λ other. same other iv) b ≡ true → passes (λ other. not (same other iv)) b ≡ false
    by none e = refl
    by (some other) e = rw e refl

-- the customer's sentence: every call that bears another session's IV is struck out
pub others_struck : (iv : List ℕ) (state : State) (calls : List Call) → Lendable state → lent_in calls ≡ []
    → let rest = unstruck (λ before call. bears_other iv call) calls in
    (told_in iv state calls ≡ told_in iv state rest) × (session_in iv (after state calls).table ≡ session_in iv (after state rest).table)
others_struck iv state calls l setups =
    let same = any_strike iv state calls (λ before call. bears_other iv call) l setups (spares_own iv) in
    (same.told, same.stands.session)

-- of calls none of which bears the IV every one can go, and of any calls every one can stay
none_left : (iv : List ℕ) (calls : List Call) → NoneBears iv calls → unstruck (λ before call. not (bears iv call)) calls ≡ []
unfolding unstruck
none_left iv [] others = refl
none_left iv (call ∷ earlier) others = rw others.0 (none_left iv earlier others.1)

all_left : (calls : List Call) → unstruck (λ before call. false) calls ≡ calls
unfolding unstruck
all_left [] = refl
all_left (call ∷ earlier) = ap (λ (l : List Call). call ∷ l) (all_left earlier)

-- so other sessions' calls cannot end a session, delay it or fill its window
pub unharmed : (iv : List ℕ) (state : State) (calls : List Call) → Lendable state → lent_in calls ≡ [] → NoneBears iv calls
    → Unharmed iv state (after state calls)
unfolding after
unharmed iv state calls l setups others =
    let r = subst (λ (kept : List Call). Ran here iv state calls state kept) (none_left iv calls others)
    (stricken iv state calls (λ before call. not (bears iv call)) (ready state l) setups (λ before call b. ap not b)) in
    let stands = r.same.stands in
    record {
      stands = λ place s. found_session (after state calls).table iv place ((stands.place place).1 (session_found state.table iv place l.well s));
      window = ap window_of stands.session;
      told = λ more later.
          (ran here iv (after state calls) state (λ before call. false) (λ before call b. refl) r.ready_one r.ready_other stands more later).same.told
          ∙ ap (told_in iv state) (all_here (unstruck (λ before call. false) more) ∙ all_left more);
    }

-- one maker's sessions on a table of their own
own_table : (mine : List ℕ → Bool) (shared own : State) (to : ℕ → ℕ) → Lendable shared → Lendable own → (calls : List Call) → lent_in calls ≡ []
    → (iv : List ℕ) → mine iv ≡ true → StandsAlike to iv shared.table own.table → SameSession to iv shared calls own (all_elsewhere to (calls_of mine calls))
own_table mine shared own to s o calls setups iv is alike =
    (ran to iv shared own (λ before call. not (bears_of mine call)) (λ before call. by (borne call)) (ready shared s) (ready own o) alike calls setups).same
  where
    by : (b : Option (List ℕ)) → passes (λ other. same other iv) b ≡ true → not (passes mine b) ≡ false
    by none e = absurd (false≢true e)
    by (some other) e = ap (λ (v : List ℕ). not (mine v)) (same_equal other iv e) ∙ ap not is

-- two makers' sessions are judged on two tables as on one, where each stands alike in its maker's table and in the shared one
pub two_tables : (mine : List ℕ → Bool) (shared first second : State) (to via : ℕ → ℕ) → Lendable shared → Lendable first → Lendable second
    → ((iv : List ℕ) → mine iv ≡ true → StandsAlike to iv shared.table first.table)
    → ((iv : List ℕ) → mine iv ≡ false → StandsAlike via iv shared.table second.table)
    → (calls : List Call) → lent_in calls ≡ [] → (iv : List ℕ)
    → (mine iv ≡ true → SameSession to iv shared calls first (all_elsewhere to (calls_of mine calls)))
    × (mine iv ≡ false → SameSession via iv shared calls second (all_elsewhere via (calls_of (λ other. not (mine other)) calls)))
two_tables mine shared first second to via s a b alike alike' calls setups iv = (
  λ e. own_table mine shared first to s a calls setups iv e (alike iv e),
  λ e. own_table (λ other. not (mine other)) shared second via s b calls setups iv (ap not e) (alike' iv e),
)
