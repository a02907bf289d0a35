use Rattle.cpi_proc.proofs.RequestLemmas.{request_found, request_none}
use Rattle.cpi_proc.proofs.request_reader.read_request.Goals as goal

pub returns-clause-found : goal.returns-clause-found
returns-clause-found c = request_found c.args.bytes.now c.request_or_fault.result c.request_or_fault.ensures

pub returns-clause-none : goal.returns-clause-none
returns-clause-none c = request_none c.args.bytes.now c.request_or_fault.result c.request_or_fault.ensures
