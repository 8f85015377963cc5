-- The list fields of document 02, K10: repeated lines of one of these are one value (RFC 9110, section 5.3).
-- Assumes nothing.
use Rattle.std.specs.Prelude.{ℕ, List, [], ◌∷◌, Bool}
use Rattle.cells.specs.Text.{codes}
use Rattle.names.specs.Names.{has_name}

unfoldable pub list_names : List (List ℕ)
list_names =
    codes "Accept"
    ∷ codes "Accept-Charset"
    ∷ codes "Accept-Encoding"
    ∷ codes "Accept-Language"
    ∷ codes "Connection"
    ∷ codes "Cache-Control"
    ∷ codes "If-Match"
    ∷ codes "If-None-Match"
    ∷ codes "TE"
    ∷ codes "Trailer"
    ∷ codes "Upgrade"
    ∷ codes "Via"
    ∷ []

unfoldable pub is_list : List ℕ → Bool
is_list name = has_name list_names name
