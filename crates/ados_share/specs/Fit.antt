-- Whether all of the folders of a share comes in.
use Rattle.std.specs.Prelude.{List, Bool, ◌-◌, ◌&&◌, ◌==◌, nat_le, length}
use Rattle.ados_transfer.specs.declared.folders.Look.{Look}
use Rattle.ados_transfer.specs.declared.left_alone.LeftAlone.{LeftAlone}
use Rattle.ados_transfer.specs.Folders.{is_whole}
use Rattle.ados_share.specs.declared.fit.Need.{Need}

-- there is room for each file and folder, and for the others that the Shell has already
abbrev pub has_room : Need → Bool
has_room need = nat_le need.own.objects need.most.objects && nat_le need.others.objects (need.most.objects - need.own.objects)

-- All of the folders comes in: a look at their names left nothing out, nor did what was done since (`left_out`), and there is room.
abbrev pub fits : Look → List LeftAlone → Need → Bool
fits look left_out need = is_whole look && (length left_out == 0 && has_room need)
