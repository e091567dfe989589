-- What a content that can be sent has, each by itself. Assumes nothing.
use mathlib.Core.Path.{◌≡◌}
use mathlib.Core.Bool.{true}
use Prim.Native.Nat.{◌<◌}
use borrow.Author.Tests.{ltb-true, lt-ltb}
use lib.Dec.{ltb}
use Rattle.laws.proofs.Tests.{both_true, both-holds}
use Rattle.fields.specs.Fields.{fitting}
use Rattle.codecs.specs.Codec.{fit}
use Rattle.kinds.specs.Kind.{Kind, Content, sent, sevens, format, fields, control, strings, size, fits}

module _ {B : Type 0} (k : Kind B) (c : Content B) where
  pub record Sendable : Type 0 where
    pub asked : k.asked c.kind ≡ true
    pub fine : k.fine (size k c) c.body ≡ true
    pub entire : (format k).whole (sent 0 (control k c) c) ≡ true
    pub fitted : fitting (fields k 0 (control k c) c) ≡ true
    pub seven : sevens (strings k c) ≡ true
    pub small : size k c < 2048

  pub sendable : fits k c ≡ true → Sendable
  unfolding fits
  sendable h =
      let p = both_true (k.asked c.kind) _ h in
      let q = both_true (k.fine (size k c) c.body) _ p.1 in
      let t = both_true (fit (format k) (sent 0 (control k c) c)) _ q.1 in
      let u = both_true ((format k).whole (sent 0 (control k c) c)) _ t.0 in
      let v = both_true (sevens (strings k c)) (ltb (size k c) 2048) t.1 in
      record { asked = p.0; fine = q.0; entire = u.0; fitted = u.1; seven = v.0; small = ltb-true (size k c) 2048 v.1 }

  pub sends : Sendable → fits k c ≡ true
  unfolding fits
  sends s =
      both-holds (k.asked c.kind) _ s.asked
      (both-holds (k.fine (size k c) c.body) _ s.fine
      (both-holds (fit (format k) (sent 0 (control k c) c)) _
      (both-holds ((format k).whole (sent 0 (control k c) c)) _ s.entire s.fitted)
      (both-holds (sevens (strings k c)) (ltb (size k c) 2048) s.seven (lt-ltb (size k c) 2048 s.small))))
