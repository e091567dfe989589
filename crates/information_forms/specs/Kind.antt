-- Application Information as a kind of block: what is sent for it, and the record that is written.
use Rattle.std.specs.Prelude.{Bool, true, List, ℕ, eqb}
use Rattle.laws.specs.Pick.{either}
use Rattle.kinds.specs.Kind.{Kind, Content, fits as sendable}
use Rattle.kinds.specs.Block.{record_with, Means}
use Rattle.information_forms.specs.Information.{Information, AI, Behind, behind, sent_behind, among}

-- AI alone is asked for; strings follow; nothing else is asked of a block
abbrev pub information : Kind Behind
information =
    record {
      asked = λ kind. either (eqb kind AI) (eqb kind AI);
      spoken = true;
      behind = λ kind. behind;
      fine = λ block_size body. true;
      number = 14;
    }

-- the information in a content: the reserved bit, fill_up_1 and fill_up are no part of it
abbrev pub value : Content Behind → Information
value c = among c.copyright c.body

-- what is sent for information: those bits are 0
abbrev pub content : Information → Content Behind
content i = record { kind = AI; copyright = i.copyright; reserved = 0; body = sent_behind 0 0 i }

-- information that can be sent: its lengths and its count are those of what they count, its values fit their fields, codes have seven bits,
-- and block_size fits its eleven
abbrev pub fits : Information → Bool
fits i = sendable information (content i)

-- the record that is written
abbrev pub record_of : ℕ → Information → List ℕ
record_of application i = record_with information application 0 (content i)

-- record r is exactly this information of this application, in clear: whatever the bits are that are no part of it
abbrev pub Says : ℕ → List ℕ → Information → Type 0
Says application r i = Means information value application r i
