-- The methods of requests (RFC 9110, section 9). Their letters are compared exactly.
use Rattle.std.specs.Prelude.{ℕ, List, codes, bytes_eq, if◌then◌else◌}
use Rattle.http_requests.specs.declared.verb.Verb.{Verb}
use Rattle.http_requests.specs.declared.verb.Verb.TheVariants.{Get, Put, Post, Delete, Other}

-- the method of these bytes
unfoldable pub verb_of : List ℕ → Verb
verb_of method =
    if bytes_eq method (codes "GET") then Get else
    (if bytes_eq method (codes "PUT") then Put else
    (if bytes_eq method (codes "POST") then Post else
    (if bytes_eq method (codes "DELETE") then Delete else Other)))
