-- `clearing_c::clearing_request_by_calendar` meets its contract: the call is made of the request that the arguments give.
use Rattle.clearing_c.proofs.clearing_request_by_calendar.Goals as goal

pub returns : goal.returns
returns c =
    record {
      gives = rw c.request_of-request.ensures at c.call_by_calendar.ensures.gives;
      written = rw c.request_of-request.ensures at c.call_by_calendar.ensures.written;
    }
