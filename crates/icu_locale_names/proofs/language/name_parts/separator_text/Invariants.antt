use Rattle.std.proofs.Common.{◌≡◌, drop, map}
use Rattle.icu_provider.specs.Names.{part_of}
use Rattle.icu_locale_names.specs.LanguageNames.{separator_text}
use Rattle.icu_locale_names.proofs.language.name_parts.separator_text.Given as goal

-- what is left of the pattern decides
abbrev pub invariant-loop-item : goal.invariant-loop-item
invariant-loop-item l = separator_text (map part_of l.items) ≡ separator_text (map part_of (drop l.item-index l.items))
