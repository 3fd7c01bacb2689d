use Rattle.std.proofs.Common.{◌∙◌, ap, sym, arith}
use Rattle.std.specs.Int.Digits.{number_from_digits}
use Rattle.std.proofs.lemmas.List.{take_all}
use Rattle.std.proofs.lemmas.Int.Digits.{number_more}
use Rattle.icu_locale_core.specs.inner.Padded.{padded}
use Rattle.icu_locale_core.proofs.Padding.{digit_fits}
use Rattle.icu_locale_core.proofs.tiny.TinyText.number.Goals as goal

-- what the bytes so far write has room for one more
pub overflow_mul-number : goal.overflow_mul-number
overflow_mul-number g c =
    let fits = digit_fits g.row.N c.loop-byte.byte-index c.self.inside.bytes c.self.invariant c.self.told c.loop-byte-test.true in
    omega (arith, fits, c.loop-byte.invariant)

pub overflow_add-number : goal.overflow_add-number
overflow_add-number g c =
    let fits = digit_fits g.row.N c.loop-byte.byte-index c.self.inside.bytes c.self.invariant c.self.told c.loop-byte-test.true in
    omega (arith, fits, c.loop-byte.invariant, c.from.ensures)

pub loop-byte-preserved : goal.loop-byte-preserved
loop-byte-preserved g c = rw (c.loop-byte.invariant, c.from.ensures) (sym (number_more 256 c.self.inside.bytes c.loop-byte.byte-index
    (omega (arith, c.loop-byte-test.true, c.self.told))))

-- all the bytes are the text and its zeros
pub returns : goal.returns
returns g c =
    let whole = take_all c.loop-byte.byte-index c.self.inside.bytes (omega (arith, c.loop-byte-test.false, c.self.told)) in
    let bytes = sym (ap (padded g.row.N) (sym c.self.view_is) ∙ c.self.invariant.zeros) in
    record {
      short = rw (← c.self.view_is) c.self.invariant.short;
      plain = rw (← c.self.view_is) c.self.invariant.plain;
      is = c.loop-byte.invariant ∙ ap (number_from_digits 256) (whole ∙ bytes);
    }
