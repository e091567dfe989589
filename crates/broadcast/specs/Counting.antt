-- What a block counts as (SCOPE 31): its datatype, where it counts; and the network that it speaks of.
use Rattle.std.specs.Prelude.{Bool, true, false, List, [], ◌∷◌, map, ℕ, eqb, ltb, leb, length, take, drop}
use Rattle.laws.specs.Pick.{pick, both}
use Rattle.answer.specs.Rules.{Rule, judged}
use Rattle.octet.specs.Decoding.{nib}
use Rattle.fields.specs.Fields.{field}
use Rattle.fields.specs.Compound.{compound}
use Rattle.forms.specs.Kinds.{known}
use Rattle.blocks.specs.Block.{Block, head_length, head_of, application_of, size_of, record_length, record_of}
use Rattle.blocks.specs.Sums.{sound}
use Rattle.menu_forms.specs.Menus.{NI}
use Rattle.table.specs.Reading.{read_rules as table_rules, table_read}
use Rattle.menu_reader.specs.Reading.{read_rules as menu_rules}
use Rattle.information.specs.Reading.{read_rules as information_rules, information_read}
use Rattle.information_forms.specs.Information.{this_network}
pub use Rattle.information_forms.specs.Information.{AI}
use Rattle.broadcast.specs.declared.seeing.Seen.{Seen}

-- the other datatypes of an EPG application (11.12.3, table 39): Programme, OSD, Message, Update, Conditional Access and Helper Information
abbrev pub PI : ℕ
PI = 2

abbrev pub OI : ℕ
OI = 4

abbrev pub MI : ℕ
MI = 5

abbrev pub UI : ℕ
UI = 6

abbrev pub CI : ℕ
CI = 62

abbrev pub HI : ℕ
HI = 63

-- what stands for a record that doesn't count
abbrev pub uncounted : ℕ
uncounted = 64

-- every rule holds
abbrev pub holding : List Rule → Bool
holding rules = judged (λ number offset. false) rules true

-- a block has a kind where its record is whole, its application is ours, its size is at least 8 and its first eight bytes decode; its part and
-- its second byte aren't judged
unfoldable pub has_kind : ℕ → List ℕ → Bool
has_kind application r =
    both (ltb application 32)
    (both (eqb (length r) (record_length r))
    (both (eqb (application_of (head_of r)) application)
    (both (leb 8 (size_of (head_of r))) (eqb (sound (map nib (take 8 (drop head_length r)))) 8))))

-- datatype_id: six bits behind checksum and control_block_size (table 7)
abbrev pub kind_of : List ℕ → ℕ
kind_of r = field 18 6 (compound (drop head_length r))

-- reading accepts it, room apart; only AI, NI, LI and TI are read, and another kind counts as it stands
unfoldable pub is_read : ℕ → ℕ → List ℕ → Bool
is_read application kind r =
    pick (eqb kind AI) (holding (information_rules application r))
    (pick (eqb kind NI) (holding (menu_rules application r))
    (pick (known kind) (holding (table_rules application r)) true))

-- the network that a block of a kind speaks of: of an AI this_operator_network_no of the information that it carries (table 11), of an LI or TI
-- netwop_no of the table (tables 15, 17), of another kind none, which is 0
unfoldable pub network_of : ℕ → List ℕ → ℕ
network_of kind r =
    pick (eqb kind AI) (this_network (information_read (drop head_length r)).opening) (pick (known kind) (table_read r).network 0)

-- it doesn't count
abbrev pub unseen : Seen
unseen = record { kind = uncounted; network = 0 }

-- what counts
unfoldable pub seen : ℕ → List ℕ → Seen
seen application r =
    pick (both (has_kind application r) (is_read application (kind_of r) r))
    (record { kind = kind_of r; network = network_of (kind_of r) r })
    unseen

-- the datatype that a record counts as, 64 where it doesn't
abbrev pub counts_as : ℕ → List ℕ → ℕ
counts_as application r = (seen application r).kind

-- the same of each block of a list
unfoldable pub all_seen : ℕ → List Block → List Seen
all_seen application [] = []
all_seen application (b ∷ bs) = seen application (record_of b) ∷ all_seen application bs
