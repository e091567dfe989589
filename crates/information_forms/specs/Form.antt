-- Application Information in lent bytes, the AI form (SCOPE 31.4): 1, copyright, the row of its values, the codes of the service's name; each network:
-- the row of its values, the codes of its name.
use Rattle.std.specs.Prelude.{List, ◌∷◌, ◌++◌, ℕ, ◌+◌, get_or, drop}
use Rattle.codecs.specs.Rows.{each, in_row, codes_in}
use Rattle.information_forms.specs.Rows.{row_bytes, row_form, row_in}
use Rattle.information_forms.specs.Information.{Network, Information, AI, opening_widths, network_widths, network_count, name_length, network_name}

unfoldable pub network_form : Network → List ℕ
network_form n = row_form network_widths n.numbers ++ n.name

unfoldable pub form : Information → List ℕ
form i = AI ∷ i.copyright ∷ row_form opening_widths i.opening ++ (i.name ++ each network_form i.networks)

-- ---- back: the information that a form stands for. Past its end a form reads as zeros

unfoldable pub network_in : List ℕ → Network
network_in f =
    let numbers = row_in network_widths f in
    record { numbers = numbers; name = codes_in (network_name numbers) (drop (row_bytes network_widths) f) }

-- the bytes before the service's name: twenty
abbrev pub form_opening : ℕ
form_opening = 2 + row_bytes opening_widths

unfoldable pub information_in : List ℕ → Information
information_in f =
    let opening = row_in opening_widths (drop 2 f) in
    record {
      copyright = get_or f 1 0;
      opening = opening;
      name = codes_in (name_length opening) (drop form_opening f);
      networks = in_row network_form network_in (network_count opening) (drop (form_opening + name_length opening) f);
    }
