use Rattle.ados_ram.proofs.StayLemmas.{comment-stays, insert-stays, protect-stays, put-stays, remove-stays, rename-stays}
use Rattle.ados_ram.proofs.laws.others_stay.Goals as goal

pub returns : goal.returns
returns c = record {
  write = λ files key name bytes. insert-stays files key _;
  write_as = λ files key name bytes bits. insert-stays files key _;
  append = λ files key name bytes. insert-stays files key _;
  put_open = put-stays;
  make_dir = λ files key name. insert-stays files key _;
  delete = remove-stays;
  rename = rename-stays;
  protect = protect-stays;
  comment = comment-stays;
}
