-- What only private calls cite; nothing here needs to be believed. Blocks tallied by kind, and behind that by kind and network; and what reading
-- says where it is lent no room.
use Rattle.std.specs.declared.result.Result.TheVariants.{Ok, Err}
use Rattle.std.specs.Prelude.{Option, None, Some, Bool, true, List, [], ◌∷◌, ◌++◌, ℕ, ◌+◌, ◌*◌, eqb, ltb, get_or, set}
use Rattle.laws.specs.Pick.{pick}
use Rattle.text_lines.specs.Codes.{codes}
use Rattle.fields.specs.Fields.{field}
use Rattle.fields.specs.Compound.{compound}
use Rattle.forms.specs.Kinds.{known}
use Rattle.blocks.specs.Taking.{Read}
use Rattle.broadcast.specs.declared.seeing.Seen.{Seen}
use Rattle.broadcast.specs.Counting.{AI}
use Rattle.broadcast.specs.Lawful.{Counts, line, verdict_lines}

-- the network of a kind by its place in the raw bytes
abbrev pub network_in : ℕ → List ℕ → ℕ
network_in kind raw = pick (eqb kind AI) (field 144 8 (compound raw)) (pick (known kind) (field 44 8 (compound raw)) 0)

-- a count goes no further
abbrev pub most_counted : ℕ
most_counted = 256

abbrev pub more : ℕ → ℕ
more n = pick (ltb n most_counted) (n + 1) n

-- one more at a place
abbrev pub noted : List ℕ → ℕ → List ℕ
noted t place = set t place (more (get_or t place 0))

-- where the blocks of a kind and a network are tallied: behind the kinds, of which the last is that of what doesn't count
abbrev pub network_at : ℕ → ℕ → ℕ
network_at kind network = 65 + 256 * kind + network

-- so many places: the networks of the kinds up to 8
abbrev pub places : ℕ
places = 65 + 256 * 9

abbrev pub tally : List ℕ → Seen → List ℕ
tally t s = noted (noted t s.kind) (network_at s.kind s.network)

unfoldable pub tallied : List ℕ → List Seen → List ℕ
tallied t [] = t
tallied t (s ∷ ss) = tallied (tally t s) ss

-- the counts of a tally
unfoldable pub counts_by : List ℕ → ℕ → Counts
counts_by t channel =
    record { number = λ kind. get_or t kind 0; number_of = λ kind network. get_or t (network_at kind network) 0; channel = channel }

-- every rule but the room holds, where no other rule has number 1
abbrev pub is_accepted : Read → Bool
is_accepted (Ok t) = true
is_accepted (Err why) = eqb why.no 1

-- the name of the rule that isn't met by its first letter: all names end in I
abbrev pub name_by : Option ℕ → List ℕ
name_by None = []
name_by (Some letter) = letter ∷ codes "I"

-- the lines of the one kind of guide, by the name of the rule that isn't met
unfoldable pub said : List ℕ → List ℕ
said name = line (codes "guide=") (codes "EPG") ++ verdict_lines name
