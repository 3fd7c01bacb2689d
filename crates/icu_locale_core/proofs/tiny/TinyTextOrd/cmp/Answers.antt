use Rattle.icu_locale_core.specs.laws.Numbers.{number_cmp}
use Rattle.icu_locale_core.proofs.tiny.TinyTextOrd.cmp.Goals as goal

pub returns : goal.returns
returns g c =
    let same = number_cmp g.row.N c.args.self.now c.args.other.now c.number.result c.number-2.result c.number.ensures c.number-2.ensures in
    cc (c.cmp.ensures, same)
