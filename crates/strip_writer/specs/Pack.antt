-- Bits packed into bytes, from bit 0 of each byte up; the last byte is padded with zeros (document 01, "Writing rule").
use Rattle.std.specs.Prelude.{ℕ, ◌+◌, ◌*◌, Bool, List, [], ◌∷◌}
use Rattle.bits.specs.Bits.{bit_value}

-- the number whose bits these are, low bit first
abbrev pub value_of : List Bool → ℕ
value_of [] = 0
value_of (b ∷ l) = bit_value b + 2 * value_of l

-- eight bits to a byte; the bits that are left make the last byte, whose higher bits are 0
unfoldable pub packed : List Bool → List ℕ
packed [] = []
packed (a ∷ []) = value_of (a ∷ []) ∷ []
packed (a ∷ b ∷ []) = value_of (a ∷ b ∷ []) ∷ []
packed (a ∷ b ∷ c ∷ []) = value_of (a ∷ b ∷ c ∷ []) ∷ []
packed (a ∷ b ∷ c ∷ d ∷ []) = value_of (a ∷ b ∷ c ∷ d ∷ []) ∷ []
packed (a ∷ b ∷ c ∷ d ∷ e ∷ []) = value_of (a ∷ b ∷ c ∷ d ∷ e ∷ []) ∷ []
packed (a ∷ b ∷ c ∷ d ∷ e ∷ f ∷ []) = value_of (a ∷ b ∷ c ∷ d ∷ e ∷ f ∷ []) ∷ []
packed (a ∷ b ∷ c ∷ d ∷ e ∷ f ∷ g ∷ []) = value_of (a ∷ b ∷ c ∷ d ∷ e ∷ f ∷ g ∷ []) ∷ []
packed (a ∷ b ∷ c ∷ d ∷ e ∷ f ∷ g ∷ h ∷ l) = value_of (a ∷ b ∷ c ∷ d ∷ e ∷ f ∷ g ∷ h ∷ []) ∷ packed l
