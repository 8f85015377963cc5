-- The state takes in all the parts of the signed text.
use Rattle.std.proofs.Common.{◌≡◌, ◌≤◌, ◌+◌, ◌++◌, ◌∷◌, [], ℕ, List, take, sym, ap, subst, ◌∙◌, arith}
use Rattle.sha_2.specs.Hash.{block_size, sha2}
use Rattle.sha_2.specs.InnerTaken.{Taken}
use Rattle.hmac.specs.Hmac.{inner_key}
use Rattle.lines.specs.InnerNotes.{values_by}
use Rattle.lines.proofs.Notes.{values_noted, placed_noted}
use Rattle.signed.specs.SignedText.{covered_values}
use Rattle.signed.specs.InnerStreamed.{opening_parts}
use Rattle.signed.proofs.Streaming.{size, size_append, took_then, parts_joined}
use Rattle.signed.proofs.Short.{request_short}
use Rattle.signed.proofs.code.Goals as goal
use Rattle.signed.proofs.code.Goals.{Start}

abbrev key : Start → List ℕ
key s = inner_key (sha2 s.args.hash) (block_size s.args.hash) s.args.key.now

abbrev opens : Start → List (List ℕ)
opens s = opening_parts s.args.brought.now.method.now s.args.hash s.args.covered.now.mask s.args.covered.now.extra.now s.args.n.0 s.args.t.0 s.args.lt.0

abbrev held : Start → List (List ℕ)
held s = covered_values s.args.covered.now.mask s.args.covered.now.extra.now s.args.brought.now.lines.aside.now s.args.brought.now.lines.head.now

abbrev ends : Start → List (List ℕ)
ends s = s.args.brought.now.path.now ∷ s.args.brought.now.body.now ∷ []

short : (s : Start) → size (opens s) + size (held s) + size (ends s) ≤ 2000000
short s =
    let a = s.args in
    let b = a.brought.now in
    request_short a.hash a.covered.now.mask a.n.0 a.t.0 a.lt.0 b.method.now a.covered.now.extra.now b.lines.aside.now b.lines.head.now b.path.now b.body.now
    b.method_fits a.covered.now.good b.lines.head_fits b.lines.aside_fits b.path_fits b.body_fits

-- the values by the notes are the covered ones
told : (s : Start) → let notes = s.args.notes.now in
    values_by s.args.brought.now.lines.aside.now s.args.brought.now.lines.head.now (take notes.count notes.head) (take notes.count notes.aside) ≡ held s
unfolding covered_values
told s = values_noted s.requires.notes

ends_size : (s : Start) → size (ends s) ≡ size (s.args.brought.now.path.now ∷ []) + size (s.args.brought.now.body.now ∷ [])
ends_size s = size_append (s.args.brought.now.path.now ∷ []) (s.args.brought.now.body.now ∷ [])

pub opening-requires : goal.opening-requires
opening-requires c = omega (arith, short (goal.at.opening-requires c).Start, c.begin-state.ensures.0)

pub values-requires : goal.values-requires
values-requires c =
    let s = (goal.at.values-requires c).Start in
    let on = s.requires.notes in
    let placed = placed_noted on in
    (on.long_head ∙ sym on.long_aside, placed.0, placed.1, rw (told s) (omega (arith, short s, c.begin-state.ensures.0, c.opening.ensures.counted)))

pub absorb-requires : goal.absorb-requires
absorb-requires c =
    let s = (goal.at.absorb-requires c).Start in
    omega (arith, short s, ap size (told s), ends_size s, c.begin-state.ensures.0, c.opening.ensures.counted, c.values.ensures.counted)

pub absorb-requires-2 : goal.absorb-requires-2
absorb-requires-2 c =
    let s = (goal.at.absorb-requires-2 c).Start in
    omega (arith, short s, ap size (told s), ends_size s, c.begin-state.ensures.0, c.opening.ensures.counted, c.values.ensures.counted, c.absorb.ensures.counted)

pub finish-requires : goal.finish-requires
finish-requires c =
    let s = (goal.at.finish-requires c).Start in (
      s.requires.key,
      omega (
        arith,
        short s,
        ap size (told s),
        ends_size s,
        c.begin-state.ensures.0,
        c.opening.ensures.counted,
        c.values.ensures.counted,
        c.absorb.ensures.counted,
        c.absorb-2.ensures.counted,
      ),
    )

pub returns : goal.returns
returns c =
    let s = (goal.at.returns c).Start in
    let a = s.args in
    let b = a.brought.now in
    let took =
    took_then (opens s) (held s ++ ends s) c.opening.ensures
    (took_then (held s) (ends s) (rw (told s) at c.values.ensures) (took_then (b.path.now ∷ []) (b.body.now ∷ []) c.absorb.ensures c.absorb-2.ensures)) in
    c.finish.ensures a.hash _
    (subst (λ (text : List ℕ). Taken a.hash c.absorb-2.new.state (key s ++ text))
    (parts_joined a.hash a.covered.now.mask a.n.0 a.t.0 a.lt.0 b.method.now a.covered.now.extra.now b.lines.aside.now b.lines.head.now b.path.now b.body.now)
    (took.appended a.hash (key s) c.begin-state.ensures.1))
