use Rattle.icu_locale_core.proofs.Padding.{eq-padded}
use Rattle.icu_locale_core.proofs.tiny.TinyTextPartialEq.eq.Goals as goal

pub returns : goal.returns
returns g c =
    let same = eq-padded g.row.N c.args.self.now c.args.other.now c.padded.ensures.plain c.padded-2.ensures.plain c.padded.ensures.short
    c.padded-2.ensures.short in
    cc (c.eq.ensures, c.padded.ensures.value, c.padded-2.ensures.value, same)
