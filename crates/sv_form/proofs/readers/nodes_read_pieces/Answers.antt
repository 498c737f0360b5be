use Rattle.sv_form.proofs.ReaderLemmas.{piece_of}
use Rattle.sv_form.proofs.readers.nodes_read_pieces.Goals as goal

pub returns : goal.returns
returns c = λ block node j. piece_of block node j
