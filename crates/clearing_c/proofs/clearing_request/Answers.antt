-- `clearing_c::clearing_request` meets its contract: the call is made of the request that the arguments give.
use Rattle.clearing_c.proofs.clearing_request.Goals as goal

pub returns : goal.returns
returns c =
    record { gives = rw c.request_of-r.ensures at c.call.ensures.gives; written = rw c.request_of-r.ensures at c.call.ensures.written }
