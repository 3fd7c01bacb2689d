use Rattle.std.proofs.Common.{◌<◌, ◌^◌, ◌+◌, length, inl, arith}
use Rattle.icu_locale_core.specs.Identifier.{pieces, is_separator}
use Rattle.std.proofs.lemmas.List.Splits.{length-slice_split}
use Rattle.std.proofs.lemmas.List.Sums.{count_by-le-length}
use Rattle.icu_locale_extensions.proofs.texts.Subtags.len.Goals as goal

-- a text has one piece more than separators
pub count-requires-clause-fits : goal.count-requires-clause-fits
count-requires-clause-fits g c =
    let t = c.self.inside.text.items in
    let few : 0 + length (pieces t) < 2 ^ 64 = omega (arith, length-slice_split is_separator t, count_by-le-length is_separator t, c.len.ensures) in
    inl (rw (c.iter.ensures, ← c.self.view_is) few)
