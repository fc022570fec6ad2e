-- Offsets that are written and read. Assumes nothing.
use mathlib.Core.Path.{◌≡◌, refl}
use mathlib.Core.Bool.{Bool, true, false, and-eq-true_iff}
use mathlib.Core.Logic.{◌⊎◌, inl, inr}
use lib.Dec.{leb, ltb}
use lib.ListN.{length}
use borrow.Author.Tests.{leb-true, ltb-true, le-leb, lt-ltb}
use Rattle.stamp.specs.Stamps.{IsOffset, is_zulu, offset_text, is_offset}
use Rattle.stamp.specs.declared.Offset.{Offset}

-- what passes as an offset is one
pub test_offset : (o : Offset) → is_offset o ≡ true → IsOffset o
test_offset o e =
    let both = (and-eq-true_iff (leb o.west 1) (ltb o.minutes 1440)).0 e in
    record { west = leb-true _ _ both.0; minutes = ltb-true _ _ both.1 }

-- and an offset passes
pub offset_passes : {o : Offset} → IsOffset o → is_offset o ≡ true
offset_passes h = rw (le-leb _ _ h.west, lt-ltb _ _ h.minutes)

-- its text has one byte or six
pub offset_sizes : (o : Offset) → (length (offset_text o) ≡ 1) ⊎ (length (offset_text o) ≡ 6)
offset_sizes o = go (is_zulu o) refl
  where
    go : (b : Bool) → is_zulu o ≡ b → (length (offset_text o) ≡ 1) ⊎ (length (offset_text o) ≡ 6)
    go true e = rw e (inl refl)
    go false e = rw e (inr refl)
