-- Application Information as a value, and the format that table 11 has for it (EN 300 707, clause 11.2; SCOPE 31.1, 31.2).
use Rattle.std.specs.Prelude.{List, [], ◌∷◌, ◌++◌, ℕ, ◌%◌, eqb, get_or}
use Rattle.codecs.specs.Rows.{each}
use Rattle.codecs.specs.Codec.{Codec, number, filling, values, codes, then, row, seen}

-- a network of the list: its values in table 11's order, and the codes of its name
pub record Network : Type 0 where
  pub numbers : List ℕ
  pub name : List ℕ

-- the service: its values in table 11's order, the codes of its name, the networks
pub record Information : Type 0 where
  pub copyright : ℕ
  pub opening : List ℕ
  pub name : List ℕ
  pub networks : List Network

-- the datatype_id of Application Information (11.12.3)
abbrev pub AI : ℕ
AI = 1

-- the widths from epg_version_number on: the version, the same _swo; the numbers of NI, OI and MI blocks, and the same _swo; no_of_networks,
-- this_operator_network_no, service_name_length, no_of_updates
abbrev pub opening_widths : List ℕ
opening_widths = 6 ∷ 6 ∷ 16 ∷ 16 ∷ 16 ∷ 16 ∷ 16 ∷ 16 ∷ 8 ∷ 8 ∷ 5 ∷ 1 ∷ []

abbrev pub network_count : List ℕ → ℕ
network_count opening = get_or opening 8 0

-- this_operator_network_no: the network that carries the guide
abbrev pub this_network : List ℕ → ℕ
this_network opening = get_or opening 9 0

abbrev pub name_length : List ℕ → ℕ
name_length opening = get_or opening 10 0

-- the widths of a network: cni, LTO_magnitude, LTO_sign, no_of_days, netwop_name_len, default_alphabet, prog_start_no, prog_stop_no,
-- prog_stop_no_swo, network_version_no, no_of_LI_structures, no_of_TI_structures, network_add_info
abbrev pub network_widths : List ℕ
network_widths = 16 ∷ 7 ∷ 1 ∷ 5 ∷ 5 ∷ 7 ∷ 16 ∷ 16 ∷ 16 ∷ 6 ∷ 1 ∷ 2 ∷ 2 ∷ []

abbrev pub network_name : List ℕ → ℕ
network_name numbers = get_or numbers 4 0

-- a network: its values; its name
unfoldable pub network_format : Codec Network
network_format =
    seen (λ n. (n.numbers, n.name)) (λ r. record { numbers = r.0; name = r.1 })
    (then (values network_widths) (λ numbers. codes (network_name numbers)))

-- fill_up stands where the number of networks is odd: with it they end on a whole byte
unfoldable pub fill_up : ℕ → Codec ℕ
fill_up count = filling (eqb (count % 2) 1) 4

-- what stands behind reserved_for_future_use, in its order: the values, fill_up_1, the service's name, the networks, fill_up. The codes
-- stand behind it all: the service's name, then the networks' names in their order
abbrev pub Behind : Type 0
Behind = List ℕ × (ℕ × (List ℕ × (List Network × ℕ)))

abbrev pub behind : Codec Behind
behind =
    then (values opening_widths) (λ opening. then (number 2) (λ first. then (codes (name_length opening)) (λ name.
    then (row network_format (network_count opening)) (λ networks. fill_up (network_count opening)))))

-- what is sent behind it for this information, with these bits of fill_up_1 and fill_up
abbrev pub sent_behind : ℕ → ℕ → Information → Behind
sent_behind first second i = (i.opening, (first, (i.name, (i.networks, second))))

-- the information among it, which the bits that fill are no part of
abbrev pub among : ℕ → Behind → Information
among copyright (opening, (first, (name, (networks, second)))) =
    record { copyright = copyright; opening = opening; name = name; networks = networks }

-- the codes of all names, in the order in which they are sent: the service's, then the networks'
abbrev pub names : Information → List ℕ
names i = i.name ++ each (λ (n : Network). n.name) i.networks
