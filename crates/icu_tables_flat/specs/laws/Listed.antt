-- A look-up of names and keys goes to the same texts as one among the names with their rows.
use Rattle.std.specs.Prelude.{◌≡◌, ℕ, List, Option, Some, None}
use Rattle.std.proofs.Common.{refl, sym, ap, ◌∙◌}
use Rattle.std.specs.BTreeMap.{is_at}
use Rattle.std.specs.Option.{option_and_then, option_map}
use Rattle.std.proofs.lemmas.Map.Made.{lookup-map_values}
use Rattle.icu_locale_core.specs.Maps.{value_at}
use Rattle.icu_locale_core.specs.TextSet.{text_cmp}
use Rattle.icu_tables_flat.specs.Flat.{FlatRows, listed, run_at, text_at, text_in}

in_run : (f : FlatRows) (key : List ℕ) (run : Option ℕ)
    → option_and_then (λ run. text_in f run key) run
    ≡ option_and_then (λ rows. value_at text_cmp rows key) (option_map (run_at f) run)
in_run f key None = refl
in_run f key (Some run) = refl

-- the text at a name and a key is that of the rows which are listed at the name
pub text_at-listed : (f : FlatRows) (name key : List ℕ)
    → text_at f name key
    ≡ option_and_then (λ rows. value_at text_cmp rows key) (value_at text_cmp (listed f) name)
text_at-listed f name key =
    in_run f key (value_at text_cmp f.groups name)
    ∙ ap (option_and_then (λ rows. value_at text_cmp rows key))
    (sym (lookup-map_values (run_at f) (is_at (text_cmp name)) f.groups))
