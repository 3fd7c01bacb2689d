use Rattle.icu_locale_fallback.specs.Fallback.{root}
use Rattle.icu_locale_fallback.proofs.Variants.{chain_plain, chain_variants, ends_with_subtags, repeats_with_subtags}
use Rattle.icu_locale_fallback.proofs.laws.variants_go_first.Goals as goal

pub returns : goal.returns
returns c = record {
  plain = chain_plain;
  variants = chain_variants;
  ends = λ by x. ends_with_subtags by x root;
  repeats = repeats_with_subtags;
}
