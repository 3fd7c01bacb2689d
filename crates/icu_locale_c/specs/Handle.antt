-- What a handle owns: nothing at null, and else a box with the value.
use base.Fml.{Fml, ftrue, ffalse}
use denote.RawPtr.{Ptr, block_ptr, null_ptr}
use Rattle.std.specs.Coded.{Coded, coded_option}
use Rattle.std.specs.Box.Ownership.{box_owns}
use Rattle.std.specs.Global.{Global}
use Rattle.std.specs.declared.option.Option.{Option}
use Rattle.std.specs.declared.option.Option.TheVariants.{None, Some}
use Rattle.std_heap.specs.contracts.GlobalAllocator.TheImpl.{ghosts}
use Rattle.icu_locale_c.specs.contracts.shared.Shared.{the_row}

-- what a handle owns
abbrev pub handle_owns : Global → Ptr → Option the_row.Denot → Fml
handle_owns a null_ptr None = ftrue
handle_owns a null_ptr (Some x) = ffalse
handle_owns a (block_ptr b o) None = ffalse
handle_owns a (block_ptr b o) (Some x) =
    box_owns (ghosts.dealloc_token a) the_row (block_ptr b o) x

-- the code of what a handle holds
abbrev pub held_coded : Coded (Option the_row.Denot)
held_coded = coded_option the_row.coded
