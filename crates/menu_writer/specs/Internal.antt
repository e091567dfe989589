-- What only private calls cite; nothing here needs to be believed. The loops of a form, entry by entry: how long an entry is, whether its
-- values fit, and the bytes that are sent for it.
use Rattle.std.specs.Prelude.{◌≡◌, Bool, true, List, [], ◌∷◌, ◌++◌, map, ℕ, zero, suc, ◌+◌, ◌*◌, ltb, length, get_or, drop}
use Rattle.laws.specs.Pick.{both}
use Rattle.octet.specs.Image.{image}
use Rattle.fields.specs.Fields.{Field, width, fitting}
use Rattle.parity.specs.Parity.{letter}
use Rattle.menu_forms.specs.Menus.{info_bytes, descriptor_fields, escape_fields, attribute_fields, zeros, fields, strings, sevens}
use Rattle.menu_forms.specs.Form.{descriptor_in, escape_in, attribute_in, form, menu_in}
use Rattle.menu_forms.specs.Block.{in_nibbles}
use Rattle.menu_writer.specs.declared.Tally.{Tally}
use Rattle.menu_writer.specs.declared.Loop.{Loop}
use Rattle.menu_writer.specs.declared.Loop.TheVariants.{Codes, Descriptors, Escapes, Attributes}

-- the bytes of the entry at the front of a form
abbrev pub entry_length : Loop → List ℕ → ℕ
entry_length Codes f = 1
entry_length Descriptors f = 3
entry_length Escapes f = 4
entry_length Attributes f = 1 + info_bytes (get_or f 0 0)

-- its values fit
abbrev pub entry_fine : Loop → List ℕ → Bool
entry_fine Codes f = ltb (get_or f 0 0) 128
entry_fine Descriptors f = fitting (descriptor_fields (descriptor_in f))
entry_fine Escapes f = fitting (escape_fields (escape_in f))
entry_fine Attributes f = fitting (attribute_fields (attribute_in f))

-- what is sent for it
abbrev pub entry_bytes : Loop → List ℕ → List ℕ
entry_bytes Codes f = letter (get_or f 0 0) ∷ []
entry_bytes Descriptors f = map image (in_nibbles (descriptor_fields (descriptor_in f)))
entry_bytes Escapes f = map image (in_nibbles (escape_fields (escape_in f)))
entry_bytes Attributes f = map image (in_nibbles (attribute_fields (attribute_in f)))

-- the same of the k entries at its front
unfoldable pub loop_length : Loop → ℕ → List ℕ → ℕ
loop_length what zero f = 0
loop_length what (suc k) f = entry_length what f + loop_length what k (drop (entry_length what f) f)

unfoldable pub loop_fine : Loop → ℕ → List ℕ → Bool
loop_fine what zero f = true
loop_fine what (suc k) f = both (entry_fine what f) (loop_fine what k (drop (entry_length what f) f))

unfoldable pub loop_bytes : Loop → ℕ → List ℕ → List ℕ
loop_bytes what zero f = []
loop_bytes what (suc k) f = entry_bytes what f ++ loop_bytes what k (drop (entry_length what f) f)

-- ---- what a part of a form comes to

-- a measured part of a form: the place behind it, the bytes of control data and of strings that it takes, and whether its values fit
pub record Told (r : Tally) (at : ℕ) (form : List ℕ) (fs : List Field) (codes : List ℕ) : Type 0 where
  pub ends : r.end ≡ at + length form
  pub takes : 8 * r.control ≡ width fs
  pub sends : r.strings ≡ length codes
  pub fine : r.fine ≡ both (fitting fs) (sevens codes)

-- the values before the descriptors fit, and header_size is one of 0, 1, 2
abbrev pub opening_fine : List ℕ → Bool
opening_fine f =
    both (both (ltb (get_or f 4 0) 3) (ltb (get_or f 5 0) 8))
    (both (both (ltb (get_or f 7 0) 64) (ltb (get_or f 8 0) 16)) (both (ltb (get_or f 1 0) 2) (ltb (get_or f 6 0) 256)))

-- a form, measured
pub record Whole (r : Tally) (f : List ℕ) : Type 0 where
  pub ends : r.end ≡ length (form (menu_in f))
  pub takes : 8 * r.control ≡ width (fields 0 0 zeros (menu_in f))
  pub sends : r.strings ≡ length (strings (menu_in f))
  pub fine :
      r.fine
      ≡ both (fitting (fields 0 0 zeros (menu_in f))) (both (ltb (menu_in f).header_size 3) (sevens (strings (menu_in f))))
