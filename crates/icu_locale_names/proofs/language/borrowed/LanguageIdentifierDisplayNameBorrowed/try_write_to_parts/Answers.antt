use Rattle.std.proofs.Common.{◌∙◌, sym}
use Rattle.icu_locale_names.specs.LentNames.{pieces_of}
use Rattle.icu_locale_names.proofs.PieceWrites.{nothing_marked}
use Rattle.icu_locale_names.proofs.language.borrowed.LanguageIdentifierDisplayNameBorrowed.try_write_to_parts.Goals as goal

-- no piece is raw
pub returns-clause-marked : goal.returns-clause-marked
returns-clause-marked g c = nothing_marked c.args.parts.now.items (pieces_of c.args.self.now) (sym c.in-Some.ensures.raw ∙ c.if-is_raw.false)
