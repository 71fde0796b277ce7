-- Document 02, Ask 12: what mending makes of one entry.
use Rattle.std.specs.Prelude.{ℕ, Bool, cond, ◌&&◌, ◌||◌, eqb, leb}
use Rattle.map_format.specs.declared.Entry.{Entry}
use Rattle.map_format.specs.Format.{blank, read_only, buffered, control}
use Rattle.map_test.specs.MapTest.{free, place_kind, vendor_low_place, vendor_low, vendor_high_place, vendor_high, scratch_place, scratch_mask}

abbrev pub entry : ℕ → ℕ → ℕ → Entry
entry kind mask default = record { kind = kind; mask = mask; default = default }

-- The kind that the place asks for. Elsewhere unknown kinds and control entries become blank: kinds 0 to 3 stay.
unfoldable pub mended_kind : ℕ → ℕ → ℕ
mended_kind a kind = cond (eqb (place_kind a) free) (cond (leb kind buffered) kind blank) (place_kind a)

-- Masks and defaults that must be 0 are cleared.
unfoldable pub cleared : Entry → Entry
cleared e =
    cond (eqb e.kind blank || eqb e.kind control) (entry e.kind 0 0)
    (cond (eqb e.kind read_only) (entry e.kind 0 e.default)
    e)

-- Single bytes that document 01 fixes: the mask of scratch, and the vendor bytes.
unfoldable pub with_fixed_bytes : ℕ → Entry → Entry
with_fixed_bytes a e =
    cond (eqb a scratch_place) (entry e.kind scratch_mask e.default)
    (cond (eqb a vendor_low_place) (entry e.kind e.mask vendor_low)
    (cond (eqb a vendor_high_place) (entry e.kind e.mask vendor_high)
    e))

-- The entry at an address, mended: its kind first, then what that kind asks, then the single bytes. All else is kept.
unfoldable pub mended_at : ℕ → Entry → Entry
mended_at a e = with_fixed_bytes a (cleared (entry (mended_kind a e.kind) e.mask e.default))

-- no byte of the entry is altered
abbrev pub same_entry : Entry → Entry → Bool
same_entry e f = eqb e.kind f.kind && eqb e.mask f.mask && eqb e.default f.default
