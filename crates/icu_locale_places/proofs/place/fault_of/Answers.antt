use Rattle.std.proofs.Common.{Err, ap, sym, ◌∙◌, inl, inr}
use Rattle.std.specs.Prelude.{is_ok, ◌≡◌}
use Rattle.icu_locale_core.specs.declared.parse_error.ParseError.TheVariants.{Memory}
use Rattle.icu_locale_extensions.specs.declared.syntax.Syntax.TheVariants.{Unicode}
use Rattle.icu_locale_places.proofs.place.fault_of.Goals as goal

pub find_place-requires : goal.find_place-requires
find_place-requires c =
    let reads = (c.reading_is_by_the_grammar.ensures.reads Unicode c.args.text.now (Err c.args.refusal)).0 c.requires in
    elim reads.read [
      | inl memory ↦ (let same : c.args.refusal ≡ Memory = cc memory in absurd (cc (sym same ∙ c.in-InvalidSubtag.is)))
      | inr same ↦ ap is_ok (sym same)
    ]
