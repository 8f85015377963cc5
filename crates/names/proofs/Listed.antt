-- The list fields are among the 55 names, so no extra name is one.
-- Assumes nothing.
use mathlib.Core.Path.{◌≡◌, refl, sym, ◌∙◌}
use mathlib.Core.List.{List, Memᴰ}
use mathlib.Core.Bool.{true, false, false≢true}
use Prim.Native.Nat.{ℕ}
use Rattle.cells.specs.Text.{codes}
use Rattle.cells.proofs.Tests.{tested}
use Rattle.names.specs.Names.{lower, same_name, has_name, header_names}
use Rattle.names.specs.Lists.{list_names, is_list}
use Rattle.names.specs.Extra.{extra_names, good_extra}
use Rattle.names.proofs.Has.{among, among_has, has_member}
use Rattle.names.proofs.Apart.{extra_new}

lists_among : among list_names header_names ≡ true
unfolding has_name same_name lower list_names header_names codes
lists_among = refl

pub list_known : (name : List ℕ) → is_list name ≡ true → has_name header_names name ≡ true
unfolding is_list
list_known name = among_has list_names header_names lists_among name

pub extra_single : (extra : List ℕ) → good_extra extra ≡ true → (name : List ℕ) → Memᴰ name (extra_names extra) → is_list name ≡ false
extra_single extra h name m =
    tested (is_list name) (λ e. absurd (false≢true (sym (extra_new extra h name (list_known name e)) ∙ has_member (extra_names extra) name m))) (λ e. e)
