-- What annex D asks of a broadcast, and the verdict (SCOPE 31).
use Rattle.std.specs.Prelude.{Bool, true, List, [], ◌∷◌, ◌++◌, ℕ, ◌+◌, eqb, ltb, leb}
use Rattle.laws.specs.Pick.{pick, both}
use Rattle.laws.specs.Range.{all}
use Rattle.answer.specs.Rules.{Rule, rule}
use Rattle.blocks.specs.Block.{whole, blocks}
use Rattle.forms.specs.Kinds.{TI, LI}
use Rattle.text_lines.specs.Codes.{codes}
use Rattle.menu_forms.specs.Menus.{NI}
use Rattle.broadcast.specs.declared.seeing.Seen.{Seen}
use Rattle.broadcast.specs.Counting.{AI, PI, OI, MI, UI, CI, HI, all_seen}

-- ---- the rules, as data

-- how many blocks of a kind there may be: any number; exactly so many; at most so many; at most so many of each network, and so many of this
-- channel
pub data Asked : Type 0 where
  any : Asked
  exactly : ℕ → Asked
  most : ℕ → Asked
  of_network : ℕ → ℕ → Asked

-- a row: the datatype, its name, and what is asked
pub record Row : Type 0 where
  pub kind : ℕ
  pub name : List ℕ
  pub asked : Asked

abbrev row : ℕ → List ℕ → Asked → Row
row k n a = record { kind = k; name = n; asked = a }

-- table D.1, in its order
abbrev pub minimum : List Row
minimum =
    row AI (codes "AI") (exactly 1)
    ∷ row PI (codes "PI") any
    ∷ row NI (codes "NI") any
    ∷ row OI (codes "OI") any
    ∷ row MI (codes "MI") (most 255)
    ∷ row UI (codes "UI") (most 1)
    ∷ row LI (codes "LI") (of_network 1 2)
    ∷ row TI (codes "TI") (of_network 1 2)
    ∷ row CI (codes "CI") any
    ∷ row HI (codes "HI") any
    ∷ []

-- a kind of guide: its name, and its rules
pub record Guide : Type 0 where
  pub title : List ℕ
  pub rows : List Row

-- the kinds of guide: annex D draws no line between those of clause 4.3
abbrev pub guides : List Guide
guides = (record { title = codes "EPG"; rows = minimum }) ∷ []

-- ---- whether they are met

-- how many blocks of each kind count, how many of each kind and network, and which network conveys the guide
pub record Counts : Type 0 where
  pub number : ℕ → ℕ
  pub number_of : ℕ → ℕ → ℕ
  pub channel : ℕ

-- at most so many of a network, by its number
abbrev pub limit : ℕ → ℕ → ℕ → ℕ → ℕ
limit each here channel network = pick (eqb network channel) here each

-- each of the 256 networks that there can be is within its limit
unfoldable pub each_within : Counts → ℕ → ℕ → ℕ → Bool
each_within c kind each here = all (λ network. leb (c.number_of kind network) (limit each here c.channel network)) 0 256

abbrev pub meets : Counts → ℕ → Asked → Bool
meets c kind any = true
meets c kind (exactly n) = eqb (c.number kind) n
meets c kind (most n) = leb (c.number kind) n
meets c kind (of_network each here) = each_within c kind each here

-- the name of the first row that isn't met, and no codes where each is
unfoldable pub verdict : Counts → List Row → List ℕ
verdict c [] = []
verdict c (r ∷ rs) = pick (meets c r.kind r.asked) (verdict c rs) r.name

-- ---- what is counted

-- 1 where the test passes, else 0
abbrev pub one : Bool → ℕ
one t = pick t 1 0

-- how many count as this kind
unfoldable pub number : List Seen → ℕ → ℕ
number [] kind = 0
number (s ∷ ss) kind = one (eqb s.kind kind) + number ss kind

-- and speak of this network
unfoldable pub number_of : List Seen → ℕ → ℕ → ℕ
number_of [] kind network = 0
number_of (s ∷ ss) kind network = one (both (eqb s.kind kind) (eqb s.network network)) + number_of ss kind network

-- this channel: the network that the AI names as its own. The last AI, where there are more, and then rule AI isn't met
abbrev pub channel_after : ℕ → Seen → ℕ
channel_after now s = pick (eqb s.kind AI) s.network now

unfoldable pub channel_from : ℕ → List Seen → ℕ
channel_from now [] = now
channel_from now (s ∷ ss) = channel_from (channel_after now s) ss

unfoldable pub counted : List Seen → Counts
counted ss = record { number = number ss; number_of = number_of ss; channel = channel_from 0 ss }

-- ---- the call

-- a line: its name with its `=`, and what follows
abbrev pub line : List ℕ → List ℕ → List ℕ
line name value = name ++ value ++ (10 ∷ [])

-- by the name of the rule that isn't met
abbrev pub verdict_lines : List ℕ → List ℕ
verdict_lines [] = line (codes "lawful=") (codes "yes")
verdict_lines (a ∷ name) = line (codes "lawful=") (codes "no") ++ line (codes "rule=") (a ∷ name)

-- of each kind of guide
unfoldable pub guide_lines : Counts → List Guide → List ℕ
guide_lines c [] = []
guide_lines c (g ∷ gs) = line (codes "guide=") g.title ++ verdict_lines (verdict c g.rows) ++ guide_lines c gs

-- what counts in a list of records
abbrev pub counts_in : ℕ → List ℕ → Counts
counts_in application records = counted (all_seen application (blocks records))

-- 16 for the application, 13 for a list that isn't whole records, 24 where no AI counts
abbrev pub lawful_rules : ℕ → List ℕ → List Rule
lawful_rules application records =
    rule (ltb application 32) 16 0
    ∷ rule (whole records) 13 0
    ∷ rule (ltb 0 ((counts_in application records).number AI)) 24 0
    ∷ []

-- what is said of them
unfoldable pub lawful_lines : ℕ → List ℕ → List ℕ
lawful_lines application records = guide_lines (counts_in application records) guides
