-- What a request answers, as its acts have it. Assumes nothing.
use Rattle.std.specs.Prelude.{ℕ, ◌%◌, min, if◌then◌else◌, List, [], ◌∷◌, ◌++◌, length, take, drop, sum_by, Ok, Err}
use Rattle.std.specs.List.{flat_map}
use Rattle.chip.specs.Sent.{Answer, read_bytes}
use Rattle.chip.specs.declared.bus_frame.Reply.TheVariants.{Done}
use Rattle.fault.specs.Refusals.{fault_at}
use Rattle.fault.specs.declared.Refusal.TheVariants.{NoStrobe}
use Rattle.port.specs.Acts.{Act, exchanged, pulsed, any_lost}
use Rattle.port.specs.Requests.{Request, place}
use Rattle.port.specs.declared.traffic.Traffic.{Traffic}

-- ---- the frames and their low clocks

abbrev pub frames_in : Act → ℕ
frames_in (exchanged x) = 1
frames_in (pulsed n) = 0

abbrev pub low_in : Act → ℕ
low_in (exchanged x) = x.low
low_in (pulsed n) = 0

-- of all acts
abbrev pub traffic_of : List Act → Traffic
traffic_of acts = record { frames = sum_by frames_in acts; clocks = sum_by low_in acts }

-- ---- the bytes that came

abbrev pub bytes_in : Act → List ℕ
bytes_in (exchanged x) = read_bytes x.frame x.answer x.after
bytes_in (pulsed n) = []

-- from the start of the request on: a byte that rounding added in front is left out
abbrev pub request_bytes : Request → List Act → List ℕ
request_bytes q acts = drop (place q % 2) (flat_map bytes_in acts)

-- a buffer that takes these bytes, as far as it reaches
abbrev pub buffer_with : List ℕ → List ℕ → List ℕ
buffer_with buffer bytes = take (length buffer) bytes ++ drop (length bytes) buffer

-- how many bytes of a buffer are good
abbrev pub good_count : List ℕ → Request → List Act → ℕ
good_count buffer q acts = min (length (request_bytes q acts)) (length buffer)

-- ---- the answer

-- what one frame was answered, and a pulse
abbrev pub answer_in : Act → Answer
answer_in (exchanged x) = x.answer
answer_in (pulsed n) = Ok Done

-- that of the last act
abbrev pub last_answer : List Act → Answer
last_answer [] = Ok Done
last_answer (act ∷ []) = answer_in act
last_answer (act ∷ rest) = last_answer rest

-- 19 where a strobe was lost, with the good bytes
abbrev pub answer_of : List ℕ → Request → List Act → Answer
answer_of buffer q acts =
    if any_lost acts then Err (fault_at (NoStrobe (good_count buffer q acts)) (place q)) else last_answer acts
