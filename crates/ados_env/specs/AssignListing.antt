-- Assign: LIST, VOLS, DIRS and DEVICES.
use Rattle.std.specs.Prelude.{Bool, ◌||◌, List, [], ◌++◌, codes, if◌then◌else◌}
use Rattle.std.specs.List.{flat_map}
use Rattle.std.specs.FinMap as map
use Rattle.ados_text.specs.Text.{Bytes}
use Rattle.ados_text.specs.declared.codes.TheConstants.Result2.{TOO_MANY_ARGUMENTS}
use Rattle.ados_readargs.specs.declared.args.Arg.{Arg}
use Rattle.ados_readargs.specs.Args.{has_switch}
use Rattle.ados_find.specs.Codes.{fail_codes}
use Rattle.ados_find.specs.Shared.{SharedState}
use Rattle.ados_find.specs.Effects.{Effect, codes_effect, output_effect}
use Rattle.ados_env.specs.AssignLines.{assign_lines}
use Rattle.ados_env.specs.AssignRequest.{has_target, keeps_text, changes_list}
use Rattle.ados_env.specs.declared.assign_listing.Listing.{Listing}
use Rattle.ados_env.specs.declared.assign_request.Request.{Request}
use Rattle.ados_env.specs.declared.options.TheConstants.{ASSIGN_DEVICES, ASSIGN_DIRS, ASSIGN_LIST, ASSIGN_VOLS}

-- which listings Assign is asked for: devices, volumes, assigns; LIST and DIRS both ask for the assigns
abbrev pub listing_of : List Arg → Listing
listing_of args = record {
  devices = has_switch args ASSIGN_DEVICES;
  volumes = has_switch args ASSIGN_VOLS;
  assigns = has_switch args ASSIGN_LIST || has_switch args ASSIGN_DIRS;
}

-- Assign is asked for a listing: LIST, VOLS, DIRS or DEVICES is given
abbrev pub is_asked : Listing → Bool
is_asked l = l.devices || (l.volumes || l.assigns)

-- the lines, if they are asked for
abbrev pub lines_if : Bool → Bytes → Bytes
lines_if asked lines = if asked then lines else []

-- the lines of the listings that are asked for: devices, volumes, assigns in the order of their names
abbrev pub listing_lines : SharedState → Listing → Bytes
listing_lines shared l =
    lines_if l.devices (codes "NIL RAM\n")
    ++ (lines_if l.volumes (codes "Ram Disk\n") ++ lines_if l.assigns (flat_map (assign_lines shared.files) (map.values shared.assigns)))

-- Assign has more than EXISTS besides its listing: NAME (`has_name`), TARGET, or another switch
abbrev pub is_given_more : Request → Bool → Bool
is_given_more r has_name = has_name || (has_target r || (keeps_text r || changes_list r))

-- the listings are printed; they may not be asked for together with NAME, TARGET or a switch other than EXISTS
abbrev pub print_listing : SharedState → Request → Listing → Bool → Effect
print_listing shared r l has_name =
    if is_given_more r has_name then codes_effect shared (fail_codes TOO_MANY_ARGUMENTS)
    else output_effect shared (listing_lines shared l)
