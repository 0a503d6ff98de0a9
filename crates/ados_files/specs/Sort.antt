-- Sort: the lines of a file are written to a file in an order.
use Rattle.std.specs.Prelude.{ℕ, ◌-◌, nat_lt, ℤ, pos, negsuc, List, ◌∷◌, [], ◌++◌, Option, Some, None, Result, Ok, Err, if◌then◌else◌}
use Rattle.std.specs.List.{flat_map}
use Rattle.ados_text.specs.Text.{Bytes, Text}
use Rattle.ados_text.specs.declared.codes.TheConstants.Result2.{BAD_NUMBER}
use Rattle.ados_readargs.specs.declared.args.Arg.{Arg}
use Rattle.ados_readargs.specs.Args.{has_switch, option_number, option_text}
use Rattle.ados_find.specs.declared.codes.Codes.{Codes}
use Rattle.ados_find.specs.Codes.{fail_codes}
use Rattle.ados_find.specs.Shared.{SharedState}
use Rattle.ados_find.specs.Views.{View}
use Rattle.ados_find.specs.Effects.{Effect, codes_effect, if_found, if_given}
use Rattle.ados_find.specs.Done.{Done, fresh_work, end_effect}
use Rattle.ados_objects.specs.Acts.{at_path}
use Rattle.ados_files.specs.Join.{write_read}
use Rattle.ados_files.specs.SortOrder.{plain_lines, sorted_lines}
use Rattle.ados_files.specs.TypeFiles.{type_one}
use Rattle.ados_files.specs.declared.options.TheConstants.{SORT_CASE, SORT_COLSTART, SORT_FROM, SORT_NUMERIC, SORT_TO}
use Rattle.ados_files.specs.declared.sort_order.SortOrder.{SortOrder}
use Rattle.ados_files.specs.declared.type_files.Printing.TheVariants.{Plain}

-- how many bytes stand before the column to which COLSTART counts, from 1 on; 0 without it
abbrev pub bytes_before : Option ℤ → Result ℕ Codes
bytes_before None = Ok 0
bytes_before (Some (pos column)) = if nat_lt 0 column then Ok (column - 1) else Err (fail_codes BAD_NUMBER)
bytes_before (Some (negsuc number)) = Err (fail_codes BAD_NUMBER)

-- the order in which Sort puts lines, by CASE and NUMERIC, if so many bytes stand before the column
abbrev pub order_after : List Arg → ℕ → SortOrder
order_after args before = record { before = before; case = has_switch args SORT_CASE; numeric = has_switch args SORT_NUMERIC }

-- lines, each with a newline
abbrev pub text_of_lines : List Bytes → Bytes
text_of_lines lines = flat_map (λ line. line ++ 10 ∷ []) lines

-- what Sort writes for the bytes that were read
abbrev pub sorted_text : SortOrder → Bytes → Bytes
sorted_text order bytes = text_of_lines (sorted_lines order (plain_lines bytes))

-- the work so far, with the bytes that were read in order
abbrev pub sorted_work : SortOrder → Done → Done
sorted_work order done = record done { output = sorted_text order done.output }

-- Sort of what was read: its lines are written to TO, as Join writes
abbrev pub sort_read : View → Text → SortOrder → Done → Effect
sort_read view to order read = end_effect (write_read view to (sorted_work order read))

-- Sort of the file FROM to TO; FROM is read as Type reads
abbrev pub sort_to_target : SharedState → View → Text → Text → SortOrder → Effect
sort_to_target shared view from to order = sort_read view to order (at_path (type_one Plain view) view (fresh_work shared) from)

-- Sort of FROM to TO; COLSTART is looked at before FROM
abbrev pub sort_by_texts : SharedState → View → List Arg → Text → Text → Effect
sort_by_texts shared view args from to =
    if_found (codes_effect shared) (bytes_before (option_number args SORT_COLSTART))
    (λ before. sort_to_target shared view from to (order_after args before))

-- Sort of FROM to TO, if TO is there; the template ensures that neither is missing
abbrev pub sort_given : SharedState → View → List Arg → Option Text → Text → Effect
sort_given shared view args to from = if_given (codes_effect shared) to (sort_by_texts shared view args from)

-- Sort, given its arguments
abbrev pub sort_row : SharedState → View → List Arg → Effect
sort_row shared view args = if_given (codes_effect shared) (option_text args SORT_FROM) (sort_given shared view args (option_text args SORT_TO))
