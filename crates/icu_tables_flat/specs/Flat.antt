-- Texts by name and key: what a flat form says, and what is looked up in it.
use Rattle.std.specs.Prelude.{ℕ, List, [], map, get_or, Option, ⊤}
use Rattle.std.specs.Option.{option_and_then}
use Rattle.icu_locale_core.specs.Maps.{value_at}
use Rattle.icu_locale_core.specs.TextSet.{text_cmp}
use Rattle.icu_tables_flat.specs.declared.error.FlatError.{FlatError}
use Rattle.icu_tables_flat.specs.declared.error.FlatError.TheVariants.{Form, Long, Memory}

-- names, each with the number of its run, and the runs: texts by key
pub record FlatRows : Type 0 where
  pub groups : List (List ℕ × ℕ)
  pub runs : List (List (List ℕ × List ℕ))

-- a run by its number, and no rows where it is not there
abbrev pub run_at : FlatRows → ℕ → List (List ℕ × List ℕ)
run_at f run = get_or f.runs run []

-- the text at a key in a run
abbrev pub text_in : FlatRows → ℕ → List ℕ → Option (List ℕ)
text_in f run key = value_at text_cmp (run_at f run) key

-- the text at a name and a key
abbrev pub text_at : FlatRows → List ℕ → List ℕ → Option (List ℕ)
text_at f name key = option_and_then (λ run. text_in f run key) (value_at text_cmp f.groups name)

-- each name with its rows
abbrev pub listed : FlatRows → List (List ℕ × List (List ℕ × List ℕ))
listed f = map (λ group. (group.0, run_at f group.1)) f.groups

-- why texts are not written: they are too long, or memory was refused
abbrev pub IsRefusal : FlatError → Type 0
IsRefusal Form = ⊥
IsRefusal Long = ⊤
IsRefusal Memory = ⊤
