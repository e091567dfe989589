-- A format of a value: the fields that it lays for it, the codes of its strings, which follow all fields, the value that bits and codes
-- hold, and whether a value's counts are those of what they count. A value fits its format where that is so and each of its fields fits.
use Rattle.std.specs.Prelude.{Bool, true, List, [], ◌∷◌, ◌++◌, ℕ, zero, suc, ◌/◌, ◌^◌, eqb, length, drop}
use Rattle.laws.specs.Pick.{pick, both, either}
use Rattle.fields.specs.Fields.{Field, alike, width, fitting, field, parts}
use Rattle.codecs.specs.Rows.{each, codes_in, rowed, values_in}

pub record Codec (A : Type 0) : Type 0 where
  pub fields : A → List Field
  pub strings : A → List ℕ
  pub read : ℕ → List ℕ → A
  pub whole : A → Bool

abbrev pub fit : {A : Type 0} → Codec A → A → Bool
fit c a = both (c.whole a) (fitting (c.fields a))

-- what lies above the value that bits n and codes cs begin with, and the codes behind its own
abbrev pub past : {A : Type 0} → Codec A → ℕ → List ℕ → ℕ
past c n cs = n / 2 ^ width (c.fields (c.read n cs))

abbrev pub left : {A : Type 0} → Codec A → ℕ → List ℕ → List ℕ
left c n cs = drop (length (c.strings (c.read n cs))) cs

-- one number of w bits
abbrev pub number : ℕ → Codec ℕ
number w = record { fields = λ v. (w, v) ∷ []; strings = λ v. []; read = λ n cs. field 0 w n; whole = λ v. true }

-- w bits where there is something to fill; elsewhere none, which stand for 0
abbrev pub filling : Bool → ℕ → Codec ℕ
filling is w =
    record {
      fields = λ v. pick is ((w, v) ∷ []) [];
      strings = λ v. [];
      read = λ n cs. pick is (field 0 w n) 0;
      whole = λ v. either is (eqb v 0);
    }

-- k numbers of w bits each
abbrev pub numbers : ℕ → ℕ → Codec (List ℕ)
numbers w k = record { fields = alike w; strings = λ l. []; read = λ n cs. parts w k n; whole = λ l. eqb (length l) k }

-- a number of each of these widths, one behind the other
abbrev pub values : List ℕ → Codec (List ℕ)
values ws =
    record { fields = rowed ws; strings = λ l. []; read = λ n cs. values_in ws n; whole = λ l. eqb (length l) (length ws) }

-- a string of k codes
abbrev pub codes : ℕ → Codec (List ℕ)
codes k = record { fields = λ l. []; strings = λ l. l; read = λ n cs. codes_in k cs; whole = λ l. eqb (length l) k }

-- one thing behind another; the second's format may hang on the first's value
abbrev pub then : {A B : Type 0} → Codec A → (A → Codec B) → Codec (A × B)
then c d =
    record {
      fields = λ p. c.fields p.0 ++ (d p.0).fields p.1;
      strings = λ p. c.strings p.0 ++ (d p.0).strings p.1;
      read = λ n cs. (c.read n cs, (d (c.read n cs)).read (past c n cs) (left c n cs));
      whole = λ p. both (c.whole p.0) ((d p.0).whole p.1);
    }

module _ {A : Type 0} (c : Codec A) where
  abbrev pub row_read : ℕ → ℕ → List ℕ → List A
  row_read zero n cs = []
  row_read (suc k) n cs = c.read n cs ∷ row_read k (past c n cs) (left c n cs)

  abbrev pub row_whole : List A → Bool
  row_whole [] = true
  row_whole (a ∷ l) = both (c.whole a) (row_whole l)

  -- k things of one format
  abbrev pub row : ℕ → Codec (List A)
  row k =
      record {
        fields = each c.fields;
        strings = each c.strings;
        read = row_read k;
        whole = λ l. both (eqb (length l) k) (row_whole l);
      }

-- the same bits and codes for a value that another stands for
abbrev pub seen : {A B : Type 0} → (B → A) → (A → B) → Codec A → Codec B
seen to from c =
    record {
      fields = λ b. c.fields (to b);
      strings = λ b. c.strings (to b);
      read = λ n cs. from (c.read n cs);
      whole = λ b. c.whole (to b);
    }

-- how many there are, in w bits, and then so many
abbrev pub counted : {A : Type 0} → ℕ → Codec A → Codec (List A)
counted w c = seen (λ l. (length l, l)) (λ p. p.1) (then (number w) (row c))
