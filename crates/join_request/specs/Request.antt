-- The request that bytes are, or the first cause why they are none.
use Rattle.std.specs.Prelude.{ℕ, List, [], ◌∷◌, if◌then◌else◌, codes, Option, Some, None, Result, Err, ok_or}
use Rattle.std.specs.Option.{option_map_or}
use Rattle.serde_json.specs.Data.{Data}
use Rattle.serde_json.specs.Find.{get}
use Rattle.serde_json.specs.Written.{has_float}
use Rattle.join_request.specs.Json.{◌>>=◌, value_of, object_of, or_default}
use Rattle.join_request.specs.Parts.{side_of_value, join_of_value, columns_of_value, reductions_of_value}
use Rattle.join_request.specs.Filters.{filter_of_value}
use Rattle.join_query.specs.declared.limits.TheConstants.{DEFAULT_PLAN}
use Rattle.join_request.specs.Plans.{plan_of_value}
use Rattle.join_request.specs.declared.error.RequestError.{RequestError}
use Rattle.join_request.specs.declared.error.RequestError.TheVariants.{NotJson, Float, Shape}
use Rattle.join_request.specs.declared.parts.RequestSide.{RequestSide}
use Rattle.join_request.specs.declared.reader.QueryParts.{QueryParts}
use Rattle.join_request.specs.declared.reader.Request.{Request}

-- what a request's object says beside its two sides
abbrev pub query_of_object : Data → Option QueryParts
query_of_object request = do
  join ← get (codes "join") request >>= join_of_value
  filter ← or_default None filter_of_value (get (codes "filter") request)
  group ← get (codes "group") request >>= columns_of_value
  reduce ← get (codes "reduce") request >>= reductions_of_value
  plan ← or_default DEFAULT_PLAN plan_of_value (get (codes "plan") request)
  Some (record { join = join; filter = filter; group = group; reduce = reduce; plan = plan })

-- the query of two schemas and these parts, and the frames
abbrev pub request_of_parts : RequestSide → RequestSide → QueryParts → Request
request_of_parts build probe parts = record {
  query = record {
    build_schema = build.schema;
    probe_schema = probe.schema;
    build_keys = parts.join.build;
    probe_keys = parts.join.probe;
    null_equal = parts.join.null_equal;
    keep_probe = parts.join.keep_probe;
    keep_build = parts.join.keep_build;
    filter = parts.filter;
    group_keys = parts.group;
    reductions = parts.reduce;
    plan = parts.plan;
  };
  build = build.frames;
  probe = probe.frames;
}

-- the request that a value is
abbrev pub request_of_value : Data → Option Request
request_of_value d = do
  request ← object_of (codes "build" ∷ codes "probe" ∷ codes "join" ∷ codes "filter" ∷ codes "group" ∷ codes "reduce" ∷ codes "plan" ∷ []) d
  build ← get (codes "build") request >>= side_of_value
  probe ← get (codes "probe") request >>= side_of_value
  parts ← query_of_object request
  Some (request_of_parts build probe parts)

-- a float anywhere comes before a wrong shape
abbrev pub request_without_floats : Data → Result Request RequestError
request_without_floats d = if has_float d then Err Float else ok_or (request_of_value d) Shape

-- the request that bytes are
abbrev pub request_of : List ℕ → Result Request RequestError
request_of bytes = option_map_or request_without_floats (value_of bytes) (Err NotJson)
