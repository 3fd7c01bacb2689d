-- A text as it is kept.
use Rattle.std.specs.Prelude.{ℕ, List, ◌≤◌, take, string_bytes, IsUtf8}
use Rattle.icu_provider.specs.declared.table_text.Kept.{Kept}
use Rattle.icu_provider.specs.declared.table_text.Kept.TheVariants.{Short, Long}

-- its bytes
abbrev pub text_kept : Kept → List ℕ
text_kept (Short bytes len) = take len bytes
text_kept (Long text) = string_bytes text

-- the bytes of a short text are UTF-8, and there are as many
abbrev pub IsKept : Kept → Type 0
IsKept (Short bytes len) = (len ≤ 30) × IsUtf8 (take len bytes)
IsKept (Long text) = Unit {0}
