-- Words as the bytes that stand for them. Assumes nothing.
use Rattle.std.specs.Prelude.{ℕ, List}
use Prim.Native.String.{String, [], ◌∷◌}
use Prim.Native.Char.{code}
use mathlib.Core.List as list

-- the ASCII codes of a word: text "BIL" is 66, 73, 76
abbrev pub text : String → List ℕ
text [] = list.[]
text (c ∷ s) = list.◌∷◌ (code c) (text s)
