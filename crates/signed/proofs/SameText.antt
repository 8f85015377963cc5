-- Demand 3, its first sentence: two signed texts that are equal come from the same method, h, ah, eah, nonce (carried or not), t, lt, covered values, path and body.
-- Assumes nothing.
use mathlib.Core.Path.{◌≡◌, refl, sym, ap, ap₂, ◌∙◌}
use mathlib.Core.Bool.{Bool, true, false, cond}
use mathlib.Core.List.{List, [], ◌∷◌, ◌++◌, map, append_assoc, append-nil, Memᴰ}
use mathlib.Core.Option.{Option, none, some}
use Prim.Native.Nat.{ℕ, ◌^◌, ◌<◌}
use native.Mathlib.Omega.{arith}
use lib.ListN.{length, length-map}
use Rattle.netstring.specs.Netstring.{netstrings}
use Rattle.netstring.proofs.Determined.{netstrings_determined, netstrings_append}
use Rattle.hashes.specs.declared.Hash.{Hash}
use Rattle.hashes.specs.Hashes.{hash_mask}
use Rattle.hashes.proofs.Hashes.{mask_tells, mask_small}
use Rattle.armor.specs.Numerals.{number_bytes, mask_bytes}
use Rattle.armor.proofs.Numerals.{number_bytes_injective, mask_bytes_injective}
use Rattle.names.specs.Covered.{covered_names}
use Rattle.lines.specs.Lines.{lines_in}
use Rattle.lines.specs.Values.{covered_value}
use Rattle.signed.specs.SignedText.{Signed, carried, signed_parts, signed_text, orders_nonce, nonce_of, covered_values, signed_of, request_text}

abbrev pub is_carried : Option (List ℕ) → Bool
is_carried (some n) = true
is_carried none = false

-- with the same ah and eah, both carry n or neither does, and both have as many values
abbrev pub CalledAlike : Signed → Signed → Type 0
CalledAlike a b =
    a.ah ≡ b.ah → a.eah ≡ b.eah → (is_carried a.n ≡ is_carried b.n) × (length a.values ≡ length b.values)

-- where both or neither carry n, what is carried tells n
carried_same : (m n : Option (List ℕ)) → is_carried m ≡ is_carried n → (length (carried m) ≡ length (carried n)) × (carried m ≡ carried n → m ≡ n)
carried_same (some m) (some n) h = (refl, λ e. cc)
carried_same (some m) none h = absurd (let z : ◌≡◌ {A = ℕ} 0 1 = cc in omega arith)
carried_same none (some n) h = absurd (let z : ◌≡◌ {A = ℕ} 0 1 = cc in omega arith)
carried_same none none h = (refl, λ e. refl)

-- the parts by what tells how many they are
rows : (s : Signed) → signed_text s
    ≡ netstrings (s.method ∷ s.h ∷ s.ah ∷ s.eah ∷ []) ++ (netstrings (carried s.n) ++ (netstrings (s.t ∷ s.lt ∷ []) ++ (netstrings s.values ++ netstrings (s.path ∷ s.body ∷ []))))
unfolding signed_text signed_parts netstrings
rows s = simp (netstrings_append, append_assoc, append-nil)

abbrev made : List ℕ → List ℕ → List ℕ → List ℕ → Option (List ℕ) → List ℕ → List ℕ → List (List ℕ) → List ℕ → List ℕ → Signed
made method h ah eah n t lt values path body =
    record { method = method; h = h; ah = ah; eah = eah; n = n; t = t; lt = lt; values = values; path = path; body = body }

made_same : {method method' h h' ah ah' eah eah' : List ℕ} {n n' : Option (List ℕ)} {t t' lt lt' : List ℕ} {values values' : List (List ℕ)} {path path' body body' : List ℕ}
    → method ∷ h ∷ ah ∷ eah ∷ [] ≡ method' ∷ h' ∷ ah' ∷ eah' ∷ [] → n ≡ n' → t ∷ lt ∷ [] ≡ t' ∷ lt' ∷ [] → values ≡ values' → path ∷ body ∷ [] ≡ path' ∷ body' ∷ []
    → made method h ah eah n t lt values path body ≡ made method' h' ah' eah' n' t' lt' values' path' body'
made_same e₁ e₂ e₃ e₄ e₅ = cc

-- THE THEOREM, of any byte runs: method, h, ah, eah and so on
pub signed_same : (a b : Signed) → CalledAlike a b → signed_text a ≡ signed_text b → a ≡ b
signed_same a b alike e =
    let one = netstrings_determined (a.method ∷ a.h ∷ a.ah ∷ a.eah ∷ []) (b.method ∷ b.h ∷ b.ah ∷ b.eah ∷ []) _ _ refl (sym (rows a) ∙ e ∙ rows b) in
    let ah : a.ah ≡ b.ah = cc one.0 in
    let eah : a.eah ≡ b.eah = cc one.0 in
    let counts = alike ah eah in
    let n = carried_same a.n b.n counts.0 in
    let two = netstrings_determined (carried a.n) (carried b.n) _ _ n.0 one.1 in
    let three = netstrings_determined (a.t ∷ a.lt ∷ []) (b.t ∷ b.lt ∷ []) _ _ refl two.1 in
    let four = netstrings_determined a.values b.values _ _ counts.1 three.1 in
    let five = netstrings_determined (a.path ∷ a.body ∷ []) (b.path ∷ b.body ∷ []) [] [] refl (ap (λ (l : List ℕ). l ++ []) four.1) in
    made_same one.0 (n.1 two.0) three.0 four.0 five.0

-- what the code of a request is made from: its hash, the orders' mask and extra names, the numbers that it carries, and what the host lends
pub record Request : Type 0 where
  pub method : List ℕ
  pub hash : Hash
  pub mask : ℕ
  pub extra : List ℕ
  pub n : ℕ
  pub t : ℕ
  pub lt : ℕ
  pub aside : List ℕ
  pub head : List ℕ
  pub path : List ℕ
  pub body : List ℕ

abbrev pub text_of : Request → List ℕ
text_of p = request_text p.method p.hash p.mask p.extra p.n p.t p.lt p.aside p.head p.path p.body

-- no bit above 55, and numbers of 32 bits
pub record Fits (p : Request) : Type 0 where
  pub mask : p.mask < 2 ^ 56
  pub n : p.n < 2 ^ 32
  pub t : p.t < 2 ^ 32
  pub lt : p.lt < 2 ^ 32

-- the value of a name
abbrev pub value_of : Request → List ℕ → List ℕ
value_of p = covered_value (lines_in p.aside) (lines_in p.head)

pub record Same (p q : Request) : Type 0 where
  pub method : p.method ≡ q.method
  pub hash : p.hash ≡ q.hash
  pub mask : p.mask ≡ q.mask
  pub extra : p.extra ≡ q.extra
  pub n : orders_nonce p.mask ≡ true → p.n ≡ q.n
  pub t : p.t ≡ q.t
  pub lt : p.lt ≡ q.lt
  pub values : (name : List ℕ) → Memᴰ name (covered_names p.mask p.extra) → value_of p name ≡ value_of q name
  pub path : p.path ≡ q.path
  pub body : p.body ≡ q.body

abbrev signing : Request → Signed
signing p = signed_of p.method p.hash p.mask p.extra p.n p.t p.lt p.aside p.head p.path p.body

carries : (mask n : ℕ) → is_carried (nonce_of mask n) ≡ orders_nonce mask
unfolding nonce_of
carries mask n =
    elim (orders_nonce mask) as (λ (b : Bool). is_carried (cond b (some (number_bytes n)) none) ≡ b) [ true ↦ refl | false ↦ refl ]

nonce_same : (m x y : ℕ) → x < 2 ^ 32 → y < 2 ^ 32 → orders_nonce m ≡ true → nonce_of m x ≡ nonce_of m y → x ≡ y
unfolding nonce_of
nonce_same m x y hx hy o e =
    let f : some (number_bytes x) ≡ some (number_bytes y) = rw o at e in
    let g : number_bytes x ≡ number_bytes y = cc in
    number_bytes_injective x y (omega arith) (omega arith) g

-- equal rows of values are equal name by name
each_same : (f g : List ℕ → List ℕ) (ns : List (List ℕ)) → map f ns ≡ map g ns → (name : List ℕ) → Memᴰ name ns → f name ≡ g name
each_same f g [] e name m = elim m [ ]
each_same f g (n ∷ ns) e name (Memᴰ.head p) = cc
each_same f g (n ∷ ns) e name (Memᴰ.tail m) = each_same f g ns (cc) name m

-- THE THEOREM, of requests
pub request_same : (p q : Request) → Fits p → Fits q → text_of p ≡ text_of q → Same p q
unfolding request_text signed_of covered_values
request_same p q fp fq e =
    let masks : mask_bytes p.mask ≡ mask_bytes q.mask → p.mask ≡ q.mask =
    mask_bytes_injective p.mask q.mask (omega (arith, fp.mask)) (omega (arith, fq.mask)) in
    let names : p.mask ≡ q.mask → p.extra ≡ q.extra → covered_names p.mask p.extra ≡ covered_names q.mask q.extra = ap₂ covered_names in
    let alike : CalledAlike (signing p) (signing q) =
    λ ea ex. (
      carries p.mask p.n ∙ ap orders_nonce (masks ea) ∙ sym (carries q.mask q.n),
      length-map (covered_names p.mask p.extra) (value_of p) ∙ ap length (names (masks ea) ex) ∙ sym (length-map (covered_names q.mask q.extra) (value_of q)),
    ) in
    let s = signed_same (signing p) (signing q) alike e in
    let m = masks (ap (λ (x : Signed). x.ah) s) in
    let x = ap (λ (x : Signed). x.eah) s in
    record {
      method = ap (λ (x : Signed). x.method) s;
      hash = mask_tells p.hash q.hash (mask_bytes_injective (hash_mask p.hash) (hash_mask q.hash) (omega (arith, mask_small p.hash)) (omega (arith, mask_small q.hash)) (ap (λ (x : Signed). x.h) s));
      mask = m;
      extra = x;
      n = λ o. nonce_same p.mask p.n q.n fp.n fq.n o (ap (λ (x : Signed). x.n) s ∙ ap (λ (k : ℕ). nonce_of k q.n) (sym m));
      t = number_bytes_injective p.t q.t (omega (arith, fp.t)) (omega (arith, fq.t)) (ap (λ (x : Signed). x.t) s);
      lt = number_bytes_injective p.lt q.lt (omega (arith, fp.lt)) (omega (arith, fq.lt)) (ap (λ (x : Signed). x.lt) s);
      values = each_same (value_of p) (value_of q) _ (ap (λ (x : Signed). x.values) s ∙ sym (ap (map (value_of q)) (names m x)));
      path = ap (λ (x : Signed). x.path) s;
      body = ap (λ (x : Signed). x.body) s;
    }
