-- The directories of an assign, as Assign changes them.
use Rattle.std.specs.Prelude.{List, [], ◌∷◌, Result, Ok, Err, if◌then◌else◌}
use Rattle.std.specs.List.{list_any}
use Rattle.ados_text.specs.Text.{Text}
use Rattle.ados_text.specs.declared.codes.TheConstants.Result2.{OBJECT_NOT_FOUND}
use Rattle.ados_ram.specs.Place.{Place, is_same_place}
use Rattle.ados_find.specs.declared.codes.Codes.{Codes}
use Rattle.ados_find.specs.Codes.{error_codes}
use Rattle.ados_find.specs.Effects.{if_found}
use Rattle.ados_find.specs.SearchPath.{with_search_directory, without_search_directory}
use Rattle.ados_find.specs.Shared.{SharedState}
use Rattle.ados_find.specs.Views.{View}
use Rattle.ados_env.specs.Directories.{directory_of}
use Rattle.ados_env.specs.AssignRequest.{changes_list}
use Rattle.ados_env.specs.declared.assign_list.ListWork.{ListWork}
use Rattle.ados_env.specs.declared.assign_request.Request.{Request}

-- the list that Assign begins with, given the directories of the assign: ADD and REMOVE begin with them, every other request with none
abbrev pub first_list_work : Request → List Place → ListWork
first_list_work r before = record { removes = r.removes; before = before; list = if changes_list r then before else [] }

-- the list after one directory that TARGET names: it is added at the end, unless it is there; or with REMOVE it is removed, and must be one
-- of those that were there before
abbrev pub list_work_on_place : ListWork → Place → Result ListWork Codes
list_work_on_place work place =
    if work.removes then
    (if list_any (λ entry. is_same_place entry place) work.before then Ok (record work { list = without_search_directory work.list place })
    else Err (error_codes OBJECT_NOT_FOUND))
    else Ok (record work { list = with_search_directory work.list place })

-- the list after the texts of TARGET in order, unless one of them is refused
abbrev pub list_work_on_all : SharedState → View → ListWork → List Text → Result ListWork Codes
list_work_on_all shared view work [] = Ok work
list_work_on_all shared view work (text ∷ texts) =
    if_found Err (if_found Err (directory_of shared view text) (list_work_on_place work)) (λ next. list_work_on_all shared view next texts)
