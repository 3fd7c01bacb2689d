use Rattle.std.proofs.Common.{◌≤◌, length, ap, sym, subst, ◌∙◌, rules, option_map}
use Rattle.std.specs.Io.KnownBytes.{Consumes, prepend_known}
use Rattle.std.proofs.KnownBytes.{Consumes-nil}
use Rattle.std.specs.List.{list_any}
use Rattle.icu_locale_lines.specs.Lines.{is_line_feed, exceeds}
use Rattle.icu_locale_lines.specs.Streams.{part_size}
use Rattle.icu_locale_lines.specs.inner.Parts.{TakesLine}
use Rattle.icu_locale_lines.proofs.FirstReads.{Consumes-prepended, no_line, line_ended}
use Rattle.icu_locale_lines.proofs.Bounds.{nothing_exceeds}
use Rattle.icu_locale_lines.proofs.runs.input.read_first_line.Goals as goal

-- the line was too long in what was read before
pub returns-in_err-rest-clause-none : goal.returns-in_err-rest-clause-none
returns-in_err-rest-clause-none g c = λ refused.
    let read = g.R.Read.remaining c.args.reader.now in
    let before = c.args.before.now in
    let start = prepend_known before read in
    let longest = c.args.longest in
    let line = c.new-line.result.items in
    no_line longest start start read line before (subst (Consumes start start) (sym c.new-line.ensures.items) (Consumes-nil start))
    (Consumes-prepended before read) (ap (list_any is_line_feed) c.new-line.ensures.items) (ap (exceeds longest) c.new-line.ensures.items ∙ nothing_exceeds longest) c.requires.short
    (c.in_err-rest.ensures.long (search rules))

-- it was too long with one more part
pub returns-in_err-rest-in-Ok-clause-none : goal.returns-in_err-rest-in-Ok-clause-none
returns-in_err-rest-in-Ok-clause-none g c = λ refused.
    let read = g.R.Read.remaining in
    let start = prepend_known c.args.before.now (read c.args.reader.now) in
    let part = c.split_at.result.0.now in
    let more = subst (Consumes (read c.loop.reader) (read c.read.new.self)) (sym c.split_at.ensures.front) c.in-Ok.ensures.bytes.0 in
    let size : length part ≤ part_size = search rules in
    no_line c.args.longest start (read c.loop.reader) (read c.read.new.self) c.loop.line.items part c.loop.invariant.consumed more
    c.loop.invariant.alone c.loop.invariant.within size (c.in_err-rest-in-Ok.ensures.long (search rules))

-- one more part ends it
pub returns-in-Some-2-clause-line : goal.returns-in-Some-2-clause-line
returns-in-Some-2-clause-line g c =
    let read = g.R.Read.remaining in
    let start = prepend_known c.args.before.now (read c.args.reader.now) in
    let part = c.split_at.result.0.now in
    let more = subst (Consumes (read c.loop.reader) (read c.read.new.self)) (sym c.split_at.ensures.front) c.in-Ok.ensures.bytes.0 in
    let whole = c.take_line-in-Ok.new.line.items in
    let taken = subst (λ o. TakesLine c.loop.line.items part whole (option_map (λ r. r.items) o)) c.in-Some-2.is c.in_ok-rest-in-Ok.ensures.taken in
    line_ended c.args.longest start (read c.loop.reader) (read c.read.new.self) c.loop.line.items part c.loop.invariant.consumed more
    whole c.in-Some-2.rest.items c.loop.invariant.alone taken c.in_ok-rest-in-Ok.ensures.within
