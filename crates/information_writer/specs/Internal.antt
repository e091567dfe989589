-- What only private calls cite; nothing here needs to be believed. A form is walked along its networks: the place of each hangs on how many
-- stand before it and on how many codes their names have.
use Rattle.std.specs.Prelude.{◌≡◌, Bool, true, List, [], ◌∷◌, ◌++◌, ℕ, ◌+◌, ◌*◌, ◌/◌, ◌%◌, ltb, length, get_or, drop}
use Rattle.laws.specs.Pick.{both}
use Rattle.fields.specs.Fields.{Field, fitting}
use Rattle.codecs.specs.Rows.{each, in_row, rowed}
use Rattle.kinds.specs.Kind.{sevens}
use Rattle.information_forms.specs.Rows.{cut, row_in}
use Rattle.information_forms.specs.Information.{Network, Information, opening_widths, network_widths, network_format, fill_up, names}
use Rattle.information_forms.specs.Form.{network_form, network_in}
use Rattle.information_writer.specs.declared.Measured.{Measured}

-- the place of the network behind j others, whose names with the service's have so many codes
abbrev pub placed : ℕ → ℕ → ℕ
placed j codes = 20 + 17 * j + codes

abbrev pub network_at : ℕ → ℕ → List ℕ → Network
network_at j codes f = network_in (drop (placed j codes) f)

-- the k networks from there on
abbrev pub networks_from : ℕ → ℕ → ℕ → List ℕ → List Network
networks_from k j codes f = in_row network_form network_in k (drop (placed j codes) f)

abbrev pub named : List Network → ℕ
named ns = length (each (λ (n : Network). n.name) ns)

-- the fields of the row of these widths that stands in a form from a place on
abbrev pub row_at : List ℕ → ℕ → List ℕ → List Field
row_at ws at f = rowed (cut ws) (row_in (cut ws) (drop at f))

-- the fields of the k networks from there on, and the codes of their names
abbrev pub laid_from : ℕ → ℕ → ℕ → List ℕ → List Field
laid_from k j codes f = each network_format.fields (networks_from k j codes f)

abbrev pub spoken_from : ℕ → ℕ → ℕ → List ℕ → List ℕ
spoken_from k j codes f = each (λ (n : Network). n.name) (networks_from k j codes f)

-- the bytes of a form that the opening fields of a block would have: checksum 0, control size, kind, access, copyright, reserved
abbrev pub front_bytes : ℕ → ℕ → List ℕ
front_bytes control copyright = 0 ∷ control % 256 ∷ control / 256 % 256 ∷ 1 ∷ 0 ∷ copyright ∷ 0 ∷ []

abbrev pub front_widths : List ℕ
front_widths = 8 ∷ 10 ∷ 6 ∷ 2 ∷ 1 ∷ 1 ∷ []

-- all control data in the order in which it is laid: front, opening, fill_up_1, networks, fill_up
abbrev pub control_fields : ℕ → ℕ → ℕ → List ℕ → List Field
control_fields control networks name f =
    row_at front_widths 0 (front_bytes control (get_or f 1 0))
    ++ (row_at opening_widths 2 f ++ ((2, 0) ∷ (laid_from networks 0 name f ++ (fill_up networks).fields 0)))

-- whether a network's values fit, and its codes have seven bits
abbrev pub network_fine : Network → Bool
network_fine n = both (fitting (rowed network_widths n.numbers)) (sevens n.name)

unfoldable pub all_fine : List Network → Bool
all_fine [] = true
all_fine (n ∷ ns) = both (network_fine n) (all_fine ns)

-- the same of what stands before the networks
abbrev pub opening_fine : Information → Bool
opening_fine i = both (ltb i.copyright 2) (both (fitting (rowed opening_widths i.opening)) (sevens i.name))

-- how many codes its names have, and whether all of it fits
pub record Counted (m : Measured) (i : Information) : Type 0 where
  pub coded : m.codes ≡ length (names i)
  pub fitted : m.fine ≡ both (opening_fine i) (all_fine i.networks)
