-- What only private calls cite; nothing here needs to be believed. How long a form can be, by counts of a byte each.
use Rattle.std.specs.Prelude.{ℕ, ◌+◌, ◌*◌}
use Rattle.forms.specs.Form.{opening}

-- a descriptor: its id, its number of entries, and 255 entries of two words of three bytes
abbrev pub descriptor_most : ℕ
descriptor_most = 2 + 3 * (2 * 255)

-- a form: 255 descriptors behind its opening
abbrev pub form_most : ℕ
form_most = opening + 255 * descriptor_most
