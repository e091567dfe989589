-- A kind of block: what is asked of it, the format behind its opening fields, and how long a block of it is.
use Rattle.std.specs.Prelude.{Bool, true, List, [], ◌∷◌, ℕ, ◌+◌, ◌*◌, ◌/◌, ◌-◌, ltb, length}
use Rattle.laws.specs.Pick.{both}
use Rattle.fields.specs.Fields.{Field, width}
use Rattle.codecs.specs.Codec.{Codec, fit, then}
use Rattle.kinds.specs.Front.{Front, front}

pub record Kind (B : Type 0) : Type 0 where
  -- the datatype_ids that it has
  pub asked : ℕ → Bool
  -- whether string bytes follow its control data
  pub spoken : Bool
  -- what stands behind the opening fields, by the datatype_id; its spare bits are in it
  pub behind : ℕ → Codec B
  -- what else is asked of a block of so many bytes, and the number of the refusal where it isn't so
  pub fine : ℕ → B → Bool
  pub number : ℕ

-- what a sender chooses: all but checksum, control size and access
pub record Content (B : Type 0) : Type 0 where
  pub kind : ℕ
  pub copyright : ℕ
  pub reserved : ℕ
  pub body : B

-- what a block carries
abbrev pub Sent : Type 0 → Type 0
Sent B = Front × B

-- its content with what isn't the sender's. CA_mode is 0: free to everyone (11.1.3; SCOPE 12.8)
abbrev pub sent : {B : Type 0} → ℕ → ℕ → Content B → Sent B
sent checksum control c = (
  record { checksum = checksum; control = control; kind = c.kind; access = 0; copyright = c.copyright; reserved = c.reserved },
  c.body,
)

abbrev pub content_of : {B : Type 0} → Sent B → Content B
content_of s = record { kind = s.0.kind; copyright = s.0.copyright; reserved = s.0.reserved; body = s.1 }

-- every code has seven bits
unfoldable pub sevens : List ℕ → Bool
sevens [] = true
sevens (c ∷ cs) = both (ltb c 128) (sevens cs)

module _ {B : Type 0} (k : Kind B) where
  -- control data from checksum on, with the codes of its strings behind it
  abbrev pub format : Codec (Sent B)
  format = then front (λ f. k.behind f.kind)

  -- the fields that are laid for a content, with this checksum and control size
  abbrev pub fields : ℕ → ℕ → Content B → List Field
  fields checksum control c = format.fields (sent checksum control c)

  -- how many bits these are
  abbrev pub bits : Content B → ℕ
  bits c = width (fields 0 0 c)

  -- control_block_size: in bytes of control bits, those that fill the last byte included (11.1.2; SCOPE 12.6)
  abbrev pub control : Content B → ℕ
  control c = (bits c + 7) / 8

  -- how many bits fill the last byte: none to seven (SCOPE 12.4)
  abbrev pub fill : Content B → ℕ
  fill c = 8 * control c - bits c

  -- the codes of all strings
  abbrev pub strings : Content B → List ℕ
  strings c = format.strings (sent 0 0 c)

  -- block_size: eight bits go in two protected bytes, and each code in one (SCOPE 12.1, 12.6, 23.4)
  abbrev pub size : Content B → ℕ
  size c = 2 * control c + length (strings c)

  -- a content that can be sent: of this kind, with what else is asked of it, its counts those of what they count, each value fitting its
  -- field, control_block_size too, codes of seven bits, and block_size fitting its eleven
  unfoldable pub fits : Content B → Bool
  fits c =
      both (k.asked c.kind) (both (k.fine (size c) c.body) (both (fit format (sent 0 (control c) c)) (both (sevens (strings c)) (ltb (size c) 2048))))
