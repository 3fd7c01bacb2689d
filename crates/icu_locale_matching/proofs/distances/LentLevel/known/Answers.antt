use Rattle.icu_locale_matching.proofs.Firsts.{eight_known}
use Rattle.icu_locale_matching.proofs.distances.LentLevel.known.Goals as goal

pub returns : goal.returns
returns c = eight_known c.args.self.now.rules.now c.args.desired.now _ _ _ _ _ _ _ _ c.fits_at.ensures c.fits_at-2.ensures c.fits_at-3.ensures
    c.fits_at-4.ensures c.fits_at-5.ensures c.fits_at-6.ensures c.fits_at-7.ensures c.fits_at-8.ensures
