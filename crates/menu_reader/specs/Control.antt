-- What control data and strings carry, by the format of table 19 (SCOPE 23.1, 23.2). Control data is taken as its nibbles, strings as their
-- codes; past their end both read as zeros.
use Rattle.std.specs.Prelude.{List, ℕ}
use Rattle.kinds.specs.Kind.{Sent, content_of}
use Rattle.kinds.specs.Reading.{sent_in}
use Rattle.menu_forms.specs.Menus.{Menu, Body, navigation, menu_sent}

-- what a block carries
abbrev pub sent_of : List ℕ → List ℕ → Sent Body
sent_of ns codes = sent_in navigation ns codes

-- its menu
abbrev pub menu_of : List ℕ → List ℕ → Menu
menu_of ns codes = menu_sent (content_of (sent_of ns codes))
